use Rattle.std.proofs.Common.{◌≡◌, ◌==◌, ◌∙◌, ℕ, ap, codes, length, sym}
use Rattle.std.specs.Prelude.{false}
use Rattle.std.proofs.lemmas.Result.{IfOk-weaker}
use Rattle.toml.specs.Data.{Data, member}
use Rattle.toml.specs.View.{table_view}
use Rattle.toml.proofs.Views.{view-Array}
use Rattle.a429_import.specs.ImportTables.{words}
use Rattle.a429_import.proofs.ImportTrees.{filters_put}
use Rattle.a429_import.proofs.tables.put_filters.Goals as goal

pub returns : goal.returns
returns c =
    let old = table_view c.args.table.now in
    let some : (length c.in_ok-words.words.items == 0) ≡ false = sym (ap (λ (n : ℕ). n == 0) c.in_ok-words.words.ok.0) ∙ sym c.is_empty.ensures ∙ c.if-is_empty.false in
    IfOk-weaker c.put.result _ _
    (λ _ put before. filters_put (words c.args.text.now) c.in_ok-words.words.items old (table_view c.put.new.table) c.in_ok-words.ensures some (put before ∙ ap (λ (d : Data). member (codes "filters") d old) (view-Array c.in_ok-words.words))) c.put.ensures
