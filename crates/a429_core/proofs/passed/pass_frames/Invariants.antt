use Rattle.std.proofs.Common.{◌≡◌, ◌-◌}
use Rattle.a429_slots.specs.FrameStates.{FrameState}
use Rattle.a429_core.proofs.passed.pass_frames.Given as goal

abbrev pub invariant-loop : goal.invariant-loop
invariant-loop l = ◌≡◌ {A = FrameState} l.sender (record { table = l.fn.table; first = l.fn.slots - l.on; sent = l.counter })
