use Rattle.std.proofs.Common.{◌≡◌, map, take}
use Rattle.a429_slots.specs.Tables.{outputs_of}
use Rattle.a429_keep.proofs.stated.own_places.Given as goal

abbrev pub invariant-loop-number : goal.invariant-loop-number
invariant-loop-number l = l.places.items ≡ take l.number (map (λ o. o.place) (outputs_of l.table))
