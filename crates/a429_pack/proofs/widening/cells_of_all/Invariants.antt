use Rattle.std.proofs.Common.{◌≡◌, ◌≤◌, ◌*◌, ◌/◌, ◌^◌, map, sum, take}
use Rattle.a429_pack.proofs.widening.cells_of_all.Given as goal

abbrev pub invariant-loop-period : goal.invariant-loop-period
invariant-loop-period l = record {
  value : l.cells ≡ sum (map (λ k. 2 ^ l.frame / 2 ^ k) (take l.period-index l.periods));
  few : l.cells ≤ 8192 * l.period-index;
}
