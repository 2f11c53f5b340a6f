use Rattle.std.proofs.Common.{◌≡◌, ◌++◌, map, drop}
use Rattle.toml.specs.View.{view}
use Rattle.a429_table.specs.Repeats.{shortened}
use Rattle.a429_table.specs.Stated.{source_row}
use Rattle.a429_table.specs.Stops.{table_of}
use Rattle.a429_table.proofs.build.source_rows.Given as goal

abbrev pub invariant-loop-table : goal.invariant-loop-table
invariant-loop-table l = l.rows.items ++ map shortened (map (source_row (table_of l.index)) (map view (drop l.table-index l.tables))) ≡ map shortened (map (source_row (table_of l.index)) (map view l.tables))
