use Rattle.std.proofs.Common.{rules, tests}
use Rattle.std.proofs.lemmas.Iterator.{YieldsList-from_slice}
use Rattle.std.proofs.lemmas.Iterator.Search.{any_from_yields_List}
use Rattle.toml.specs.View.{view}
use Rattle.a429_table.specs.Columns.{column_view}
use Rattle.a429_table.specs.Faults.{misfits, has_wrong_kind}
use Rattle.a429_table.proofs.Trees.{list_any_map}
use Rattle.a429_table.proofs.shape.has_wrong_kind.Goals as goal

pub returns-else-not-is_table : goal.returns-else-not-is_table
unfolding has_wrong_kind
returns-else-not-is_table c =
    let found = any_from_yields_List (λ x. misfits (view c.args.stop.now.value.now) (column_view x)) _ _ c.any.result c.any.ensures.ran (YieldsList-from_slice c.columns_of.result.now cc) (λ x b q k. search (rules, tests)) in
    rw (found, ← c.if-not-is_table.ensures, ← c.columns_of.ensures, list_any_map)
