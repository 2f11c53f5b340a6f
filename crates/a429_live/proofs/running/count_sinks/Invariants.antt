use Rattle.std.proofs.Common.{◌≤◌, ◌-◌, length}
use Rattle.a429_live.proofs.running.count_sinks.Given as goal

abbrev pub invariant-loop-sinks : goal.invariant-loop-sinks
invariant-loop-sinks l = length l.sinks.items ≤ l.groups

abbrev pub decreases-loop-sinks : goal.decreases-loop-sinks
decreases-loop-sinks l = l.groups - length l.sinks.items
