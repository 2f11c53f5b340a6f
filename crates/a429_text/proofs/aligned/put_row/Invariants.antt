use Rattle.std.proofs.Common.{◌≡◌, ◌++◌}
use Rattle.std.specs.List.{flat_map, range_with_len}
use Rattle.a429_text.specs.Aligned.{column_text}
use Rattle.a429_text.proofs.aligned.put_row.Given as goal

abbrev pub invariant-loop-column : goal.invariant-loop-column
invariant-loop-column l = l.text ≡ l.fn.text ++ flat_map (column_text l.widths l.row) (range_with_len 0 l.column)
