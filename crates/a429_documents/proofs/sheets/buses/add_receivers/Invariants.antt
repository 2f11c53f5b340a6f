use Rattle.std.proofs.Common.{◌≡◌, ◌++◌}
use Rattle.std.specs.List.{flat_map, range_with_len}
use Rattle.a429_documents.specs.Buses.{receiver_rows}
use Rattle.a429_documents.proofs.sheets.buses.add_receivers.Given as goal

abbrev pub invariant-loop-number : goal.invariant-loop-number
invariant-loop-number l = l.rows ≡ l.fn.rows ++ flat_map (receiver_rows l.equipment) (range_with_len 0 l.number)
