use Rattle.std.proofs.Common.{◌≡◌, ◌++◌}
use Rattle.std.specs.List.{flat_map, range_with_len}
use Rattle.a429_documents.specs.Buses.{rows_on}
use Rattle.a429_documents.specs.PlannedGroups.{output_at}
use Rattle.a429_documents.proofs.sheets.buses.add_bus.Given as goal

abbrev pub invariant-loop-number : goal.invariant-loop-number
invariant-loop-number l = l.rows ≡ l.fn.rows ++ flat_map (λ o. rows_on l.bus (output_at l.group o)) (range_with_len 0 l.number)
