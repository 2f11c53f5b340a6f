use Rattle.std.proofs.Common.{rules, tests}
use Rattle.std.proofs.lemmas.Iterator.{YieldsList-from_slice}
use Rattle.std.proofs.lemmas.Iterator.Search.{all_from_yields_List}
use Rattle.std.proofs.lemmas.List.Folds.{list_all-map}
use Rattle.toml.specs.View.{view}
use Rattle.toml.proofs.Views.{view-Array}
use Rattle.a429_table.specs.Faults.{is_text}
use Rattle.a429_table.proofs.Trees.{elements-items_of}
use Rattle.a429_table.proofs.shape.has_shape.Goals as goal

pub returns-in-Texts-Array : goal.returns-in-Texts-Array
returns-in-Texts-Array c =
    let found = all_from_yields_List (λ v. is_text (view v)) _ _ c.all.result c.all.ensures.ran (YieldsList-from_slice c.in-Texts-Array.values.items cc) (λ x b q k. search (rules, tests)) in
    rw (found, c.in-Texts-Array.is-0, c.in-Texts-Array.is-1, view-Array, elements-items_of, list_all-map)
