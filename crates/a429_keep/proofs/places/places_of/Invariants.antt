use Rattle.std.proofs.Common.{◌≡◌, map}
use Rattle.std.specs.List.{range_with_len}
use Rattle.a429_slots.specs.Tables.{placed_at}
use Rattle.a429_keep.specs.Places.{place_at, start_at}
use Rattle.a429_keep.proofs.places.places_of.Given as goal

abbrev pub invariant-loop-number : goal.invariant-loop-number
invariant-loop-number l = l.places.items ≡ map (λ o. place_at l.frame (placed_at l.table o).place.period (start_at l.stands o)) (range_with_len 0 l.number)
