use Rattle.std.proofs.Common.{◌≡◌, ◌*◌, length}
use Rattle.a429_slots.proofs.MarkedCells.{AreCachedBelow}
use Rattle.a429_slots.proofs.senders.cached.fill.Given as goal

abbrev pub invariant-loop-number : goal.invariant-loop-number
invariant-loop-number l = record {
  many : length l.cells.items ≡ l.slots * 16;
  each : AreCachedBelow l.fn.plan l.number l.cells.items;
}
