use Rattle.std.proofs.Common.{◌≡◌, ◌++◌}
use Rattle.std.specs.List.{flat_map, range_with_len}
use Rattle.a429_documents.specs.Drawing.{bus_marks}
use Rattle.a429_documents.proofs.drawing.marks.push_group.Given as goal

abbrev pub invariant-loop-bus : goal.invariant-loop-bus
invariant-loop-bus l = l.marks ≡ l.fn.marks ++ flat_map (bus_marks l.group l.table l.slots) (range_with_len 0 l.bus)
