use Rattle.std.proofs.Common.{length, ◌-◌, []}
use Rattle.a429_line.specs.Stretches.{Takes}
use Rattle.a429_line.specs.declared.stage.Stage.TheVariants.{Between}
use Rattle.a429_line.proofs.stretches.take_gap.Given as goal

abbrev pub invariant-loop-at : goal.invariant-loop-at
invariant-loop-at l = Takes l.bytes l.from (Between l.fn.nulls) [] l.at (Between l.nulls)

abbrev pub decreases-loop-at : goal.decreases-loop-at
decreases-loop-at l = length l.bytes - l.at
