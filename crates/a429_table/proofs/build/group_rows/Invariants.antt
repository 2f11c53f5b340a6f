use Rattle.std.proofs.Common.{◌≡◌, ◌++◌, map, drop}
use Rattle.toml.specs.View.{view}
use Rattle.a429_table.specs.Stated.{group_row}
use Rattle.a429_table.proofs.build.group_rows.Given as goal

abbrev pub invariant-loop-table : goal.invariant-loop-table
invariant-loop-table l = l.rows.items ++ map (group_row l.rate) (map view (drop l.table-index l.tables)) ≡ map (group_row l.rate) (map view l.tables)
