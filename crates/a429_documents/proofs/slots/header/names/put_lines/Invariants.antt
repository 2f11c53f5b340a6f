use Rattle.std.proofs.Common.{◌≡◌, ◌++◌}
use Rattle.std.specs.List.{flat_map, range_with_len}
use Rattle.a429_documents.specs.SlotNames.{row_line}
use Rattle.a429_documents.proofs.slots.header.names.put_lines.Given as goal

abbrev pub invariant-loop-number : goal.invariant-loop-number
invariant-loop-number g l = l.text ≡ l.fn.text ++ flat_map (row_line l.what g.T.Named.name_of l.rows) (range_with_len 0 l.number)
