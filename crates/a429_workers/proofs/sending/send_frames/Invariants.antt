use Rattle.std.proofs.Common.{◌≡◌}
use Rattle.a429_workers.specs.GateOrder.{AreCellsInOrder}
use Rattle.a429_workers.specs.Gates.{HaveCellsPassed, points_of}
use Rattle.a429_workers.specs.Transmitting.{IsSameGroup}
use Rattle.a429_workers.proofs.Stretching.{AreInFrames}
use Rattle.a429_workers.proofs.sending.send_frames.Given as goal

abbrev pub invariant-loop : goal.invariant-loop
invariant-loop g l = record {
  frames : AreInFrames l.fn.transmit l.transmit (g.B.BusSink.taken l.fn.sink) (g.B.BusSink.taken l.sink) (record { cells = 0; words = 0; plan = l.fn.transmit.number }) l.totals l.counter;
  failed : g.B.BusSink.failed l.sink ≡ g.B.BusSink.failed l.fn.sink;
  same : IsSameGroup l.fn.transmit l.transmit;
  order : AreCellsInOrder (points_of g.G.Gate l.fn.gate) g.B.BusSink l.fn.group 0 l.totals.cells l.fn.sink l.sink;
  passed : HaveCellsPassed (g.G.Gate.passes l.fn.gate) l.fn.group l.totals.cells;
}
