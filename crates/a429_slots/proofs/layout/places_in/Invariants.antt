use Rattle.std.proofs.Common.{◌≡◌, ℕ, ◌<◌, ◌/◌, ◌%◌, ◌^◌, get_or, length}
use Rattle.a429_grid.specs.Reversal.{reversed}
use Rattle.a429_pack.specs.Sums.{start_of}
use Rattle.a429_slots.proofs.Columns.{AreZeroFrom}
use Rattle.a429_slots.proofs.layout.places_in.Given as goal

abbrev pub invariant-loop-place : goal.invariant-loop-place
invariant-loop-place g l = record {
  wide_buses : length l.buses ≡ g.row.N;
  wide_offsets : length l.offsets ≡ g.row.N;
  bus : (k : ℕ) → k < l.place → get_or l.buses (get_or l.packed.inputs k 0) 0 ≡ start_of l.packed.demands k / 2 ^ l.packed.frame;
  offset : (k : ℕ) → k < l.place → get_or l.offsets (get_or l.packed.inputs k 0) 0 ≡ reversed l.packed.frame (start_of l.packed.demands k % 2 ^ l.packed.frame);
  bus_rest : AreZeroFrom (length l.packed.inputs) l.buses;
  offset_rest : AreZeroFrom (length l.packed.inputs) l.offsets;
}
