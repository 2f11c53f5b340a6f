use Rattle.std.proofs.Common.{◌≡◌, ◌≤◌, ◌*◌, take}
use Rattle.a429_pack.specs.Taken.{freeable}
use Rattle.a429_pack.proofs.widening.cells_freed_by_all.Given as goal

abbrev pub invariant-loop-period : goal.invariant-loop-period
invariant-loop-period l = record {
  value : l.cells ≡ freeable l.frame l.low l.frame (take l.period-index l.periods);
  few : l.cells ≤ 8192 * l.period-index;
}
