use Rattle.std.proofs.Common.{◌≡◌, ◌≤◌, []}
use Rattle.std.specs.Prelude.{Some}
use Rattle.a429_recordings.specs.SimulationRuns.{CanBeUnderWay, GoesOn}
use Rattle.a429_recordings.proofs.simulate.playing.Player.next_cell.Given as goal

abbrev pub invariant-loop-left : goal.invariant-loop-left
invariant-loop-left l = record {
  played : GoesOn l.proposal l.initial.self.run (Some l.initial.left) l.self.run (Some l.left) [];
  slot : CanBeUnderWay l.proposal l.left;
  few : l.left.cells ≤ l.initial.left.cells;
  timeline : l.self.timeline ≡ l.initial.self.timeline;
}

abbrev pub decreases-loop-left : goal.decreases-loop-left
decreases-loop-left l = l.left.cells
