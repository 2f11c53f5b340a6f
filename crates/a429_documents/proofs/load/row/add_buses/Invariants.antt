use Rattle.std.proofs.Common.{◌≡◌, ◌++◌}
use Rattle.std.specs.List.{flat_map, range_with_len}
use Rattle.a429_documents.specs.Load.{bus_rows}
use Rattle.a429_documents.proofs.load.row.add_buses.Given as goal

abbrev pub invariant-loop-bus : goal.invariant-loop-bus
invariant-loop-bus l = l.rows ≡ l.fn.rows ++ flat_map (bus_rows l.group) (range_with_len 0 l.bus)
