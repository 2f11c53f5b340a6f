use Rattle.std.proofs.Common.{◌≡◌, ◌++◌}
use Rattle.std.specs.List.{flat_map, range_with_len}
use Rattle.a429_documents.specs.SlotRows.{rows_in_slot}
use Rattle.a429_documents.proofs.slots.add_frame.Given as goal

abbrev pub invariant-loop-slot : goal.invariant-loop-slot
invariant-loop-slot l = l.rows ≡ l.fn.rows ++ flat_map (rows_in_slot l.all l.group) (range_with_len 0 l.slot)
