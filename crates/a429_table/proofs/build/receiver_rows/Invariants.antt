use Rattle.std.proofs.Common.{◌≡◌, ◌++◌, map, drop}
use Rattle.toml.specs.View.{view}
use Rattle.a429_table.specs.Stated.{receiver_row}
use Rattle.a429_table.proofs.build.receiver_rows.Given as goal

abbrev pub invariant-loop-table : goal.invariant-loop-table
invariant-loop-table l = l.rows.items ++ map receiver_row (map view (drop l.table-index l.tables)) ≡ map receiver_row (map view l.tables)
