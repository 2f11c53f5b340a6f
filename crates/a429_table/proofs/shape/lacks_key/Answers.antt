use Rattle.std.proofs.Common.{◌&&◌, is_none, rules, tests}
use Rattle.std.proofs.lemmas.Iterator.{YieldsList-from_slice}
use Rattle.std.proofs.lemmas.Iterator.Search.{any_from_yields_List}
use Rattle.toml.specs.Data.{get}
use Rattle.toml.specs.View.{view}
use Rattle.a429_table.specs.Faults.{lacks_key}
use Rattle.a429_table.proofs.Trees.{list_any_map}
use Rattle.a429_table.proofs.shape.lacks_key.Goals as goal

pub returns-then-is_table : goal.returns-then-is_table
unfolding lacks_key
returns-then-is_table c =
    let found = any_from_yields_List (λ x. x.required && is_none (get x.key.now (view c.args.stop.now.value.now))) _ _ c.any.result c.any.ensures.ran (YieldsList-from_slice c.columns_of.result.now cc) (λ x b q k. search (rules, tests)) in
    rw (found, ← c.if-is_table.ensures, ← c.columns_of.ensures, list_any_map)
