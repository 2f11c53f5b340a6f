use Rattle.std.proofs.Common.{◌≡◌, ℕ, ◌<◌, IsSome, take}
use Rattle.a429_pack.specs.Demands.{demand_at}
use Rattle.a429_pack.specs.Entries.{entries_from}
use Rattle.a429_pack.proofs.packing.entries.Given as goal

abbrev pub invariant-loop-input : goal.invariant-loop-input
invariant-loop-input l = record {
  items : l.entries.items ≡ entries_from 0 (take l.input l.demands);
  fit : (i : ℕ) → i < l.input → IsSome (demand_at l.demands i).period;
}
