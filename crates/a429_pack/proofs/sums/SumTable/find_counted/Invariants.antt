use Rattle.std.proofs.Common.{◌+◌, ◌-◌, ◌*◌, ◌^◌, ◌<◌, ◌≤◌, length}
use Rattle.a429_pack.specs.Sums.{start_of}
use Rattle.a429_pack.proofs.sums.SumTable.find_counted.Given as goal

abbrev pub invariant-loop-left : goal.invariant-loop-left
invariant-loop-left g l = record {
  some : 1 ≤ l.left;
  within : l.low + l.left ≤ length l.self;
  above : start_of l.self l.low ≤ l.x;
  below : l.x < start_of l.self (l.low + l.left);
  halved : (l.left - 1) * 2 ^ l.probes < length l.self;
  few : 2 ^ l.probes ≤ 2 * length l.self;
  spread : length l.self < (l.left + 1) * 2 ^ l.probes;
}

abbrev pub decreases-loop-left : goal.decreases-loop-left
decreases-loop-left g l = l.left
