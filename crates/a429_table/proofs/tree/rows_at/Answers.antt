use Rattle.std.proofs.Common.{◌≡◌, Some, rules}
use Rattle.toml.specs.Data.{get, array}
use Rattle.toml.specs.View.{view, items_view}
use Rattle.toml.proofs.Views.{view-Array}
use Rattle.toml.specs.declared.value.Value.{the_lemmas}
use Rattle.a429_table.specs.Tree.{rows_at}
use Rattle.a429_table.proofs.Trees.{elements-items_of}
use Rattle.a429_table.proofs.tree.rows_at.Goals as goal

pub returns-in-Some-Array : goal.returns-in-Some-Array
unfolding rows_at
returns-in-Some-Array c =
    let found : get c.args.key.now (view c.args.table.now) ≡ Some (array (items_view c.in-Some-Array.rows.items)) = search (rules, the_lemmas, view-Array) in
    rw found (rw elements-items_of (search (rules, the_lemmas)))
