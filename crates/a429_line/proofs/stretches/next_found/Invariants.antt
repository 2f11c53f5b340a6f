use Rattle.std.proofs.Common.{length, ◌-◌, []}
use Rattle.a429_line.specs.Stretches.{Takes}
use Rattle.a429_line.proofs.stretches.next_found.Given as goal

abbrev pub invariant-loop-at : goal.invariant-loop-at
invariant-loop-at l = Takes l.bytes l.from l.fn.stage [] l.at l.now

abbrev pub decreases-loop-at : goal.decreases-loop-at
decreases-loop-at l = length l.bytes - l.at
