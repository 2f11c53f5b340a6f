use Rattle.std.proofs.Common.{◌≡◌, ◌++◌, map, drop}
use Rattle.toml.specs.View.{view}
use Rattle.a429_table.specs.Stated.{output_rows}
use Rattle.a429_table.specs.Stops.{table_of}
use Rattle.a429_table.proofs.build.group_outputs.Given as goal

abbrev pub invariant-loop-group : goal.invariant-loop-group
invariant-loop-group l = map (λ w. w.items) l.outputs.items ++ map (output_rows (table_of l.index)) (map view (drop l.group-index l.groups)) ≡ map (output_rows (table_of l.index)) (map view l.groups)
