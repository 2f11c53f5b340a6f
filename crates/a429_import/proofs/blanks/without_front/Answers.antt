use Rattle.std.proofs.Common.{◌≡◌, ◌∙◌, None, Some, ap, arith, sym}
use Rattle.std.specs.Option.{option_map}
use Rattle.a429_import.specs.ImportWords.{after_blank}
use Rattle.a429_import.proofs.Trimmed.{last_step, no_step, one_step}
use Rattle.a429_import.proofs.blanks.without_front.Goals as goal

pub loop-left-preserved : goal.loop-left-preserved
loop-left-preserved c =
    let is : after_blank c.loop-left.rest.now ≡ Some c.in-Some.after.now = sym c.after_blank.ensures ∙ ap (λ o. option_map (λ rest. rest.now) o) c.in-Some.is in
    sym (one_step after_blank c.loop-left.left c.loop-left.rest.now c.in-Some.after.now c.loop-left-test.true is) ∙ c.loop-left.invariant

pub returns-in-None : goal.returns-in-None
returns-in-None c =
    let is : after_blank c.loop-left.rest.now ≡ None = sym c.after_blank.ensures ∙ ap (λ o. option_map (λ rest. rest.now) o) c.in-None.is in
    sym (no_step after_blank c.loop-left.left c.loop-left.rest.now is) ∙ c.loop-left.invariant

pub returns : goal.returns
returns c = sym (last_step after_blank c.loop-left.left c.loop-left.rest.now (omega (arith, c.loop-left-test.false))) ∙ c.loop-left.invariant
