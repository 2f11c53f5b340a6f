use Rattle.std.proofs.Common.{arith, [], ◌∙◌}
use Rattle.std.proofs.lemmas.List.{get_or_default}
use Rattle.a429_judge.proofs.Labels.{none_added, one_added}
use Rattle.a429_judge.proofs.outputs.add_from.Goals as goal

pub loop-place-init : goal.loop-place-init
loop-place-init c = none_added c.args.duties.now c.args.word.now c.args.first c.args.sends.now.items c.requires.first

pub loop-place-preserved : goal.loop-place-preserved
loop-place-preserved c =
    one_added c.args.duties.now c.args.word.now c.loop-place.place _ c.args.sends.now.items c.loop-place.sends.items c.add_if_fits-own.new.sends c.index_mut.result.now c.loop-place.own c.add_if_fits-own.result
    c.loop-place-test.true c.requires.lists (c.requires.next.links c.loop-place.place 0 c.loop-place-test.true)
    (c.index_mut.ensures.value ∙ get_or_default c.loop-place.sends.items c.loop-place.place _ [] (omega (arith, c.loop-place-test.true, c.requires.lists, c.loop-place.invariant.lists)))
    c.add_if_fits-own.ensures.sends c.add_if_fits-own.ensures.fits c.loop-place.invariant
