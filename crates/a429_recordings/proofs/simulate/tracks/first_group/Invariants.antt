use Rattle.a429_recordings.specs.Tracks.{IsNextTrack}
use Rattle.a429_recordings.proofs.simulate.tracks.first_group.Given as goal

abbrev pub invariant-loop-group : goal.invariant-loop-group
invariant-loop-group l = IsNextTrack l.tracks l.group l.first
