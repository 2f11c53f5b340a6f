use Rattle.std.proofs.Common.{◌∙◌, ℕ, List, Option, ap, string_bytes, subst, sym, ◌∷◌, []}
use Rattle.std.specs.Option.{option_copied}
use Rattle.std.proofs.lemmas.Result.{on_ok_weaker}
use Rattle.toml.specs.Data.{Data}
use Rattle.toml.specs.View.{table_view, view}
use Rattle.a429_import.specs.declared.rows.ImportRow.{ImportRow}
use Rattle.a429_import.specs.ImportTables.{part_tree}
use Rattle.a429_import.specs.KeptFields.{lines_kept}
use Rattle.a429_import.specs.PrintedTables.{IsWithTables, alone, part_key}
use Rattle.a429_import.specs.TableTexts.{above_of, is_placed, piece_of, rows_before}
use Rattle.a429_import.proofs.PrintedTables.{with_stated, with_table, with_unstated}
use Rattle.a429_import.proofs.SkippedTexts.{above_skipped}
use Rattle.a429_import.proofs.tables.put_table.Goals as goal

pub returns : goal.returns
returns c =
    let part = c.args.part in
    let key : List ℕ = part_key part in
    let rows : List ImportRow = c.args.rows.now in
    let row : ImportRow = c.args.row.now in
    let kept : List ℕ → List ℕ = lines_kept c.args.comments.kept.now in
    let piece : ℕ × ImportRow → List ℕ × Data = piece_of kept (rows_before c.args.comments.made_of) part rows in
    let old : List ℕ = string_bytes c.args.shown.now in
    let new : List ℕ = string_bytes c.put_document.new.shown in
    let before : Option ImportRow = option_copied c.row_before-before.result in
    let same = c.in_ok-table.ensures ∙ ap (λ (k : List ℕ). alone k (view c.in_ok-value.value)) c.key_of.ensures ∙ ap (alone key) c.in_ok-value.ensures in
    on_ok_weaker c.put_document.result
    (λ printed.
    let has : IsWithTables old new key ((above_of kept part before row, part_tree part rows row) ∷ []) =
    with_table key _ (table_view c.in_ok-table.table) old (string_bytes c.put_above.new.shown) new _ c.in_ok-put_above.ensures
    (above_skipped kept part before row) printed.0 printed.1 printed.2 same in
    with_stated key (is_placed part) piece (c.args.place, row) old new (sym c.is_stated.ensures ∙ c.if-not-is_stated.false)
    (subst (λ (o : Option ImportRow). IsWithTables old new key ((above_of kept part o row, part_tree part rows row) ∷ [])) c.row_before-before.ensures has))
    c.put_document.ensures

pub returns-then-not-is_stated : goal.returns-then-not-is_stated
returns-then-not-is_stated c =
    with_unstated (part_key c.args.part) (is_placed c.args.part) (piece_of (lines_kept c.args.comments.kept.now) (rows_before c.args.comments.made_of) c.args.part c.args.rows.now)
    (c.args.place, c.args.row.now) (string_bytes c.args.shown.now) (sym c.is_stated.ensures ∙ c.if-not-is_stated.true)
