use Rattle.std.proofs.Common.{rules, tests}
use Rattle.std.proofs.lemmas.Iterator.{YieldsList-from_slice}
use Rattle.std.proofs.lemmas.Iterator.Search.{any_from_yields_List}
use Rattle.std.specs.Str.{bytes_eq}
use Rattle.a429_table.proofs.Trees.{list_any_map}
use Rattle.a429_table.proofs.shape.is_column_key.Goals as goal

pub returns : goal.returns
returns c =
    let found = any_from_yields_List (λ x. bytes_eq x.key.now c.args.key.now) _ _ c.any.result c.any.ensures.ran (YieldsList-from_slice c.columns_of.result.now cc) (λ x b q k. search (rules, tests)) in
    rw (found, ← c.columns_of.ensures, list_any_map)
