use Rattle.std.proofs.Common.{◌≡◌, ◌++◌}
use Rattle.std.specs.List.{flat_map, range_with_len}
use Rattle.a429_documents.specs.Buses.{sent_rows}
use Rattle.a429_documents.proofs.sheets.buses.add_buses.Given as goal

abbrev pub invariant-loop-bus : goal.invariant-loop-bus
invariant-loop-bus l = l.rows ≡ l.fn.rows ++ flat_map (sent_rows l.group) (range_with_len 0 l.bus)
