use Rattle.std.proofs.Common.{◌≡◌, ◌++◌}
use Rattle.std.specs.List.{flat_map, range_with_len}
use Rattle.a429_documents.specs.SlotHeader.{element}
use Rattle.a429_documents.proofs.slots.header.put_bus.Given as goal

abbrev pub invariant-loop-slot : goal.invariant-loop-slot
invariant-loop-slot l = l.text ≡ l.fn.text ++ flat_map (element l.table l.bus) (range_with_len 0 l.slot)
