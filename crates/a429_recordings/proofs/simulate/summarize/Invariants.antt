use Rattle.std.proofs.Common.{ℕ, List, []}
use Rattle.a429_recordings.specs.SimulationRuns.{CanBePlayed, HasPlayed, left_to_play}
use Rattle.a429_recordings.specs.SummaryRuns.{HasFigures}
use Rattle.a429_recordings.specs.declared.simulate.log.LogWord.{LogWord}
use Rattle.a429_recordings.specs.declared.simulate.machine.Happening.{Happening}
use Rattle.a429_recordings.proofs.simulate.summarize.Given as goal

abbrev pub invariant-loop-happening : goal.invariant-loop-happening
invariant-loop-happening g l = record {
  noted : (words : List LogWord) (last : ℕ) → HasPlayed l.writer.proposal words last [] l.initial.player
      → (told : List Happening) × HasPlayed l.writer.proposal words last told l.player × HasFigures l.writer.proposal told l.summary.figures.items;
  playable : CanBePlayed l.writer.proposal l.player;
}

abbrev pub decreases-loop-happening : goal.decreases-loop-happening
decreases-loop-happening g l = left_to_play l.player
