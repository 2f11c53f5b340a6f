use Rattle.std.proofs.Common.{◌≡◌, ◌∙◌, ◌-◌, ℕ, List, None, Some, ap, arith, sym}
use Rattle.std.specs.List.{find}
use Rattle.a429_import.specs.ImportForms.{heading_among, is_heading, separators}
use Rattle.a429_import.specs.ImportMaps.{given_texts}
use Rattle.a429_import.proofs.ImportForms.{among_here, among_later, among_none}
use Rattle.a429_import.proofs.forms.heading_among.Goals as goal

pub returns-in-Some : goal.returns-in-Some
returns-in-Some c =
    let maps : List (List ℕ) = given_texts c.args.maps.now in
    let found : find (is_heading maps c.loop-left.rest.now) separators ≡ Some c.in-Some.separator =
    sym c.separator_of.ensures ∙ c.in-Some.is in
    sym (among_here maps c.loop-left.left c.loop-left.rest.now c.in-Some.separator c.loop-left-test.true found) ∙ c.loop-left.invariant

pub loop-left-preserved : goal.loop-left-preserved
loop-left-preserved c =
    let maps : List (List ℕ) = given_texts c.args.maps.now in
    let none : find (is_heading maps c.loop-left.rest.now) separators ≡ None =
    sym c.separator_of.ensures ∙ c.in-None.is in
    ap (heading_among maps (c.loop-left.left - 1)) c.later_lines-rest.ensures ∙ sym (among_later maps c.loop-left.left c.loop-left.rest.now c.loop-left-test.true none) ∙ c.loop-left.invariant

pub returns : goal.returns
returns c =
    let last : c.loop-left.left ≡ 0 = omega (arith, c.loop-left-test.false) in
    sym (among_none (given_texts c.args.maps.now) c.loop-left.left c.loop-left.rest.now last) ∙ c.loop-left.invariant
