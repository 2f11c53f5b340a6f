use Rattle.std.proofs.Common.{◌≡◌, ◌≤◌, take}
use Rattle.a429_pack.specs.Demands.{greatest}
use Rattle.a429_pack.proofs.widening.greatest_of.Given as goal

abbrev pub invariant-loop-period : goal.invariant-loop-period
invariant-loop-period l = record {
  value : l.digits ≡ greatest (take l.period-index l.periods);
  few : l.digits ≤ 13;
}
