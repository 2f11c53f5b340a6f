use Rattle.std.proofs.Common.{◌≤◌, ℕ, List}
use Rattle.a429_recordings.specs.SimulationRuns.{CanBePlayed, HasPlayed, left_to_play}
use Rattle.a429_recordings.specs.Tracks.{left_in}
use Rattle.a429_recordings.specs.declared.simulate.log.LogWord.{LogWord}
use Rattle.a429_recordings.specs.declared.simulate.machine.Happening.{Happening}
use Rattle.a429_recordings.proofs.simulate.playing.Player.next.Given as goal

abbrev pub invariant-loop-sent : goal.invariant-loop-sent
invariant-loop-sent l = record {
  told : (words : List LogWord) (last : ℕ) (told : List Happening) → HasPlayed l.proposal words last told l.initial.self → HasPlayed l.proposal words last told l.self;
  playable : CanBePlayed l.proposal l.self;
  shorter : left_to_play l.self ≤ left_to_play l.initial.self;
}

abbrev pub decreases-loop-sent : goal.decreases-loop-sent
decreases-loop-sent l = left_in l.self.timeline
