use Rattle.std.proofs.Common.{◌≡◌, ◌≤◌, max, take}
use Rattle.std.specs.Prelude.{fold}
use Rattle.a429_slots.specs.Tables.{Placed, outputs_of}
use Rattle.a429_keep.proofs.places.frame_period.Given as goal

abbrev pub invariant-loop-number : goal.invariant-loop-number
invariant-loop-number l = record {
  value : l.digits ≡ fold (λ greatest (o : Placed). max greatest o.place.period) 0 (take l.number (outputs_of l.table));
  few : l.digits ≤ 13;
}
