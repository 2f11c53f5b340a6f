use Rattle.std.proofs.Common.{rules, arith, ◌-◌}
use Rattle.a429_judge.proofs.Labels.{index_all, index_more, index_none}
use Rattle.a429_judge.proofs.outputs.index.Goals as goal

pub loop-place-init : goal.loop-place-init
loop-place-init c = index_none c.args.duties.now c.args.first.now c.args.next.now c.requires.none

pub loop-place-preserved : goal.loop-place-preserved
loop-place-preserved c =
    index_more c.args.duties.now c.loop-place.first c.loop-place.next c.loop-place.place (c.loop-place.place - 1) c.from-label.result
    (omega arith) (omega (arith, c.loop-place.invariant.within)) (search rules) (search rules) (search rules) (search rules) c.loop-place.invariant

pub returns : goal.returns
returns c = index_all c.args.duties.now c.loop-place.first c.loop-place.next c.loop-place.place (search rules) (search rules) (search rules) c.loop-place.invariant
