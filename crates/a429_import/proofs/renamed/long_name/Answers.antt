use Rattle.std.proofs.Common.{◌≡◌, ◌∙◌, ◌++◌, List, ℕ, ap, arith, false, refl, sym, true}
use Rattle.a429_import.specs.MadeNames.{numbered_name}
use Rattle.a429_import.specs.Renamed.{is_taken, long_name, texts_of}
use Rattle.a429_import.proofs.ChosenNames.{free_end, free_here, free_step, not_false, not_true}
use Rattle.a429_import.proofs.renamed.long_name.Goals as goal

pub loop-number-init : goal.loop-number-init
unfolding long_name
loop-number-init c = refl

pub loop-number-preserved : goal.loop-number-preserved
loop-number-preserved c =
    let taken : List (List ℕ) = texts_of c.args.names.now ++ texts_of c.args.others.now in
    let named = c.deref.ensures.value ∙ c.in_ok-name.ensures in
    let is : is_taken taken (numbered_name c.args.base.now c.args.end.now c.loop-number.number) ≡ true =
    ap (is_taken taken) (sym named) ∙ not_false (is_taken taken c.deref.result.now) (sym c.is_free.ensures ∙ c.if-is_free.false) in
    free_step taken c.args.base.now c.args.end.now 1000 c.loop-number.number c.loop-number-test.true is ∙ c.loop-number.invariant

pub returns-then-is_free : goal.returns-then-is_free
returns-then-is_free c =
    let taken : List (List ℕ) = texts_of c.args.names.now ++ texts_of c.args.others.now in
    let named = c.deref.ensures.value ∙ c.in_ok-name.ensures in
    let is : is_taken taken (numbered_name c.args.base.now c.args.end.now c.loop-number.number) ≡ false =
    ap (is_taken taken) (sym named) ∙ not_true (is_taken taken c.deref.result.now) (sym c.is_free.ensures ∙ c.if-is_free.true) in
    c.in_ok-name.ensures ∙ free_here taken c.args.base.now c.args.end.now 1000 c.loop-number.number c.loop-number-test.true is ∙ c.loop-number.invariant

pub returns : goal.returns
returns c =
    let taken : List (List ℕ) = texts_of c.args.names.now ++ texts_of c.args.others.now in
    c.new.ensures.items ∙ free_end taken c.args.base.now c.args.end.now 1000 c.loop-number.number (omega arith) ∙ c.loop-number.invariant
