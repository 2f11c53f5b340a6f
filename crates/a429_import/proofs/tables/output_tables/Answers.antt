use Rattle.std.proofs.Common.{◌++◌, ap, map}
use Rattle.toml.specs.View.{view}
use Rattle.a429_import.specs.declared.firsts.Part.TheVariants.{Groups}
use Rattle.a429_import.specs.ImportTables.{output_tree, rows_of_group, same_name}
use Rattle.a429_import.proofs.ImportTrees.{picked_all}
use Rattle.a429_import.proofs.tables.output_tables.Goals as goal

pub loop-row-init : goal.loop-row-init
loop-row-init c = ap (λ vs. map view vs ++ map output_tree (rows_of_group c.args.rows.now c.args.group.now)) c.new-outputs.ensures.items

pub returns : goal.returns
returns c = picked_all (same_name Groups c.args.group.now) output_tree c.args.rows.now c.loop-row.row-index (map view c.loop-row.outputs.items) _ c.loop-row-test.false c.loop-row.invariant
