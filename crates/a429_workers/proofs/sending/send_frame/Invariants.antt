use Rattle.std.proofs.Common.{◌≡◌}
use Rattle.a429_workers.specs.GateOrder.{AreCellsInOrder}
use Rattle.a429_workers.specs.Gates.{HaveCellsPassed, points_of}
use Rattle.a429_workers.specs.Transmitting.{IsSameGroup}
use Rattle.a429_workers.proofs.Stretching.{IsInFrame}
use Rattle.a429_workers.proofs.sending.send_frame.Given as goal

abbrev pub invariant-loop : goal.invariant-loop
invariant-loop g l = record {
  frame : IsInFrame l.fn.transmit l.transmit (g.B.BusSink.taken l.fn.sink) (g.B.BusSink.taken l.sink) l.fn.totals l.totals l.counter;
  failed : g.B.BusSink.failed l.sink ≡ g.B.BusSink.failed l.fn.sink;
  same : IsSameGroup l.fn.transmit l.transmit;
  order : AreCellsInOrder (points_of g.G.Gate l.fn.gate) g.B.BusSink l.fn.group l.fn.totals.cells l.counter l.fn.sink l.sink;
  passed : HaveCellsPassed (g.G.Gate.passes l.fn.gate) l.fn.group l.totals.cells;
}
