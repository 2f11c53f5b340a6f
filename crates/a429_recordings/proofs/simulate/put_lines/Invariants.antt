use Rattle.std.proofs.Common.{◌≡◌, ℕ, List, []}
use Rattle.std.specs.Io.KnownBytes.{Appends, append_known}
use Rattle.a429_recordings.specs.CellLines.{IsBeginOfSlot}
use Rattle.a429_recordings.specs.Simulating.{text_of}
use Rattle.a429_recordings.specs.SimulationRuns.{CanBePlayed, HasPlayed, left_to_play}
use Rattle.a429_recordings.specs.declared.simulate.log.LogWord.{LogWord}
use Rattle.a429_recordings.specs.declared.simulate.machine.Happening.{Happening}
use Rattle.a429_recordings.proofs.simulate.put_lines.Given as goal

abbrev pub invariant-loop-happening : goal.invariant-loop-happening
invariant-loop-happening g l = record {
  put : (words : List LogWord) (last : ℕ) → HasPlayed l.writer.proposal words last [] l.initial.player
      → (told : List Happening) × HasPlayed l.writer.proposal words last told l.player
      × Appends (append_known (g.O.Output.contents l.initial.out) l.initial.lines.text.items) (append_known (g.O.Output.contents l.out) l.lines.text.items)
      (text_of l.writer.proposal l.writer.style told);
  playable : CanBePlayed l.writer.proposal l.player;
  begin : IsBeginOfSlot l.writer.proposal l.writer.style l.lines.begin;
  kept : g.O.Output.failures l.out ≡ g.O.Output.failures l.initial.out;
}

abbrev pub decreases-loop-happening : goal.decreases-loop-happening
decreases-loop-happening g l = left_to_play l.player
