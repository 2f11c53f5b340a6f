use Rattle.a429_recordings.specs.Tracks.{AreCountedTo, silent_until}
use Rattle.a429_recordings.proofs.simulate.tracks.tracks_of.Given as goal

abbrev pub invariant-loop-group : goal.invariant-loop-group
invariant-loop-group l = AreCountedTo l.proposal (silent_until l.words l.last) l.last l.group l.tracks.items
