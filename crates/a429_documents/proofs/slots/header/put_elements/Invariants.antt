use Rattle.std.proofs.Common.{◌≡◌, ◌++◌}
use Rattle.std.specs.List.{flat_map, range_with_len}
use Rattle.a429_documents.specs.SlotHeader.{bus_elements}
use Rattle.a429_documents.proofs.slots.header.put_elements.Given as goal

abbrev pub invariant-loop-bus : goal.invariant-loop-bus
invariant-loop-bus l = l.text ≡ l.fn.text ++ flat_map (bus_elements l.table) (range_with_len 0 l.bus)
