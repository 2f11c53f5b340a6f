use Rattle.std.proofs.Common.{◌≡◌, take, true}
use Rattle.a429_slots.specs.Tables.{groups_of}
use Rattle.a429_slots.specs.FrameStates.{all_fit}
use Rattle.a429_core.proofs.state.frames_fit.Given as goal

abbrev pub invariant-loop-group : goal.invariant-loop-group
invariant-loop-group l = all_fit l.first (take l.group (groups_of l.plan)) ≡ true
