use Rattle.std.proofs.Common.{◌≡◌, ◌<◌, ℕ, List, Some, get_or, length, map, refl}
use Rattle.std.proofs.lemmas.Option.{slice_get-map, slice_get_read}
use Rattle.a429_text.specs.declared.cells.KeptCell.{KeptCell}
use Rattle.a429_text.specs.declared.cells.KeptCell.TheVariants as kept
use Rattle.a429_text.specs.Fields.{Field}
use Rattle.a429_text.specs.Sheets.{kept_field, text_in}
use Rattle.a429_text.proofs.cells.Row.text.Goals as goal

text_kept : (row : List Field) (cells : List KeptCell) (column : ℕ) (cell : KeptCell) (text bytes : List ℕ) → map kept_field cells ≡ row → column < length cells → cell ≡ get_or cells column cell → cell ≡ kept.Text text → bytes ≡ text
    → Some bytes ≡ text_in column row
text_kept row cells column cell text bytes of_row below at is same =
    rw (← of_row, slice_get-map kept_field cells column, slice_get_read cells (length cells) column cell refl below at, is, same) refl

pub returns-in_ok-as_bytes-in-Some-Text : goal.returns-in_ok-as_bytes-in-Some-Text
returns-in_ok-as_bytes-in-Some-Text c =
    text_kept c.args.self.now c.in_ok-cells.field-0.now c.args.column c.in-Some-Text.field-0.now c.in-Some-Text.text c.in_ok-as_bytes-in-Some-Text.field-0.now c.in_ok-cells.ensures c.in-Some-Text.ensures.lookup.3.0 c.in-Some-Text.ensures.lookup.1 c.in-Some-Text.field-0-is
    c.in_ok-as_bytes-in-Some-Text.ensures
