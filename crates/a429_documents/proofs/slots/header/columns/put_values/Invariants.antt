use Rattle.std.proofs.Common.{◌≡◌, ◌++◌}
use Rattle.std.specs.List.{flat_map, range_with_len}
use Rattle.a429_documents.specs.PlannedGroups.{output_at}
use Rattle.a429_documents.specs.SlotColumns.{value_line}
use Rattle.a429_documents.proofs.slots.header.columns.put_values.Given as goal

abbrev pub invariant-loop-number : goal.invariant-loop-number
invariant-loop-number l = l.text ≡ l.fn.text ++ flat_map (λ n. value_line l.column (output_at l.group n)) (range_with_len 0 l.number)
