use Rattle.std.proofs.Common.{rules, tests}
use Rattle.std.proofs.lemmas.Iterator.{YieldsList-from_slice}
use Rattle.std.proofs.lemmas.Iterator.Search.{all_from_yields_List}
use Rattle.std.proofs.lemmas.List.Folds.{list_all-map}
use Rattle.toml.specs.View.{view}
use Rattle.a429_table.specs.Columns.{column_view}
use Rattle.a429_table.specs.Faults.{fills, fits_columns}
use Rattle.a429_table.proofs.shape.fits_columns.Goals as goal

pub returns-then-is_table : goal.returns-then-is_table
unfolding fits_columns
returns-then-is_table c =
    let found = all_from_yields_List (λ x. fills (view c.args.stop.now.value.now) (column_view x)) _ _ c.all.result c.all.ensures.ran (YieldsList-from_slice c.columns_of.result.now cc) (λ x b q k. search (rules, tests)) in
    rw (found, ← c.if-is_table.ensures, ← c.columns_of.ensures, list_all-map)
