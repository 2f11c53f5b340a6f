use Rattle.std.proofs.Common.{◌≡◌, ◌++◌}
use Rattle.std.specs.List.{flat_map, range_with_len}
use Rattle.a429_documents.specs.Drawing.{cell_marks}
use Rattle.a429_documents.proofs.drawing.marks.push_bus.Given as goal

abbrev pub invariant-loop-slot : goal.invariant-loop-slot
invariant-loop-slot l = l.marks ≡ l.fn.marks ++ flat_map (cell_marks l.group l.table l.bus) (range_with_len 0 l.slot)
