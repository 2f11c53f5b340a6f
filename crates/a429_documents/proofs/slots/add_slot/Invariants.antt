use Rattle.std.proofs.Common.{◌≡◌, ◌++◌}
use Rattle.std.specs.List.{flat_map, range_with_len}
use Rattle.a429_documents.specs.SlotRows.{cell_rows}
use Rattle.a429_documents.proofs.slots.add_slot.Given as goal

abbrev pub invariant-loop-bus : goal.invariant-loop-bus
invariant-loop-bus l = l.rows ≡ l.fn.rows ++ flat_map (cell_rows l.all l.group l.slot) (range_with_len 0 l.bus)
