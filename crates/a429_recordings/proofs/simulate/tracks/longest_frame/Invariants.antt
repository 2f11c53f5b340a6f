use Rattle.std.proofs.Common.{◌≡◌, ◌<◌, take}
use Rattle.a429_slots.specs.Tables.{groups_of}
use Rattle.a429_recordings.specs.Timeline.{longest_frame}
use Rattle.a429_recordings.proofs.simulate.tracks.longest_frame.Given as goal

abbrev pub invariant-loop-group : goal.invariant-loop-group
invariant-loop-group l = record {
  longest : l.longest ≡ longest_frame (take l.group l.equipment.groups) (take l.group (groups_of l.plan));
  few : l.longest < 1000000000000;
}
