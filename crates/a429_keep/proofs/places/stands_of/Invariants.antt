use Rattle.std.proofs.Common.{◌≡◌, map, take}
use Rattle.a429_slots.specs.Tables.{buses_of, outputs_of}
use Rattle.a429_keep.specs.Places.{frame_period, stand_of}
use Rattle.a429_keep.specs.Rows.{row_view}
use Rattle.a429_keep.proofs.places.stands_of.Given as goal

abbrev pub invariant-loop-number : goal.invariant-loop-number
invariant-loop-number l =
    l.stands.items ≡ map (stand_of (map row_view l.rows) l.group.name l.sources (frame_period l.table) (buses_of l.table)) (take l.number (outputs_of l.table))
