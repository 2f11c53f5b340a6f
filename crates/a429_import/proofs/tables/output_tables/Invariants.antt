use Rattle.std.proofs.Common.{◌≡◌, ◌++◌, drop, map}
use Rattle.toml.specs.View.{view}
use Rattle.a429_import.specs.ImportTables.{output_tree, rows_of_group}
use Rattle.a429_import.proofs.tables.output_tables.Given as goal

abbrev pub invariant-loop-row : goal.invariant-loop-row
invariant-loop-row l = map view l.outputs.items ++ map output_tree (rows_of_group (drop l.row-index l.rows) l.group) ≡ map output_tree (rows_of_group l.rows l.group)
