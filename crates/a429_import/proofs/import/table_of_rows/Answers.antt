use Rattle.std.proofs.Common.{◌≡◌, ◌∙◌, ap, string_bytes, subst, sym, List, ℕ, Some, Ok}
use Rattle.toml.specs.Parse.{parse_document}
use Rattle.a429_table.specs.Reading.{reading}
use Rattle.a429_import.specs.declared.rows.ImportRow.{ImportRow}
use Rattle.a429_import.specs.ImportTables.{record_stated, root_members}
use Rattle.a429_import.specs.KeptFields.{lines_kept}
use Rattle.a429_import.specs.TableTexts.{rows_before}
use Rattle.a429_import.proofs.Imports.{record_read, table_refused}
use Rattle.a429_import.proofs.ImportRanges.{same_ok}
use Rattle.a429_import.proofs.PrintedTables.{pieces_read}
use Rattle.a429_import.proofs.import.table_of_rows.Goals as goal

pub returns-in-Ok-clause-table : goal.returns-in-Ok-clause-table
returns-in-Ok-clause-table c = λ ranges.
    let rows : List ImportRow = c.args.known.now.rows.items in
    let bytes : List ℕ = c.as_bytes.result.now in
    let same : bytes ≡ string_bytes c.in_ok-text.text = c.as_bytes.ensures.value ∙ c.as_str.ensures.value in
    let parsed : parse_document bytes ≡ Some (root_members rows) = ap parse_document same ∙ pieces_read (lines_kept c.args.comments.kept.now) (rows_before c.args.comments.made_of) rows (string_bytes c.in_ok-text.text) c.in_ok-text.ensures in
    let read = record_read rows ranges bytes c.as_bytes.ensures.utf8 parsed _ c.in-Ok.ensures in
    let is = same_ok c.in-Ok.equipment (record_stated rows) (sym c.in-Ok.ensures ∙ read) in
    (rw c.into_bytes.ensures.value (subst (λ (bs : List ℕ). reading bs ≡ Ok (record_stated rows)) same read), is, rw c.into_bytes.ensures.value c.in_ok-text.ensures)

pub returns-in-Err-clause-table : goal.returns-in-Err-clause-table
returns-in-Err-clause-table c = λ ranges.
    let rows : List ImportRow = c.args.known.now.rows.items in
    let bytes : List ℕ = c.as_bytes.result.now in
    let same : bytes ≡ string_bytes c.in_ok-text.text = c.as_bytes.ensures.value ∙ c.as_str.ensures.value in
    let parsed : parse_document bytes ≡ Some (root_members rows) = ap parse_document same ∙ pieces_read (lines_kept c.args.comments.kept.now) (rows_before c.args.comments.made_of) rows (string_bytes c.in_ok-text.text) c.in_ok-text.ensures in
    table_refused rows ranges bytes c.as_bytes.ensures.utf8 parsed (lines_kept c.args.comments.kept.now) (rows_before c.args.comments.made_of) c.in-Err.fault c.from.result c.in-Err.ensures c.from.ensures
