use Rattle.std.proofs.Common.{◌≡◌, take, map}
use Rattle.a429_slots.specs.Tables.{groups_of}
use Rattle.a429_slots.specs.FrameStates.{begun}
use Rattle.a429_core.proofs.state.senders_of.Given as goal

abbrev pub invariant-loop-group : goal.invariant-loop-group
invariant-loop-group l = l.senders.items ≡ map (begun l.first) (take l.group (groups_of l.plan))
