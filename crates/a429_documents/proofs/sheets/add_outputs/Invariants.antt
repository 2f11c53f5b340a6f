use Rattle.std.proofs.Common.{◌≡◌, ◌++◌}
use Rattle.std.specs.List.{flat_map, range_with_len}
use Rattle.a429_documents.specs.PlanSheets.{output_rows}
use Rattle.a429_documents.specs.PlannedGroups.{output_at}
use Rattle.a429_documents.proofs.sheets.add_outputs.Given as goal

abbrev pub invariant-loop-number : goal.invariant-loop-number
invariant-loop-number l = l.rows ≡ l.fn.rows ++ flat_map (λ o. output_rows l.sheet (output_at l.group o)) (range_with_len 0 l.number)
