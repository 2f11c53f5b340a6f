-- Sheets: rows of cells under named columns (profile: docs/FORMATS.md, Sheets).
use Rattle.std.specs.Prelude.{ℕ, List, [], Option, None, Some, codes, option_and_then, slice_get}
use Rattle.std.specs.List.{flat_map}
use Rattle.csv.specs.Writing.{default_writer, row_text}
use Rattle.a429_text.specs.declared.cells.Cell.{Cell}
use Rattle.a429_text.specs.declared.cells.Cell.TheVariants as given
use Rattle.a429_text.specs.declared.cells.KeptCell.{KeptCell}
use Rattle.a429_text.specs.declared.cells.KeptCell.TheVariants as kept
use Rattle.a429_text.specs.declared.sheets.SheetForm.{SheetForm}
use Rattle.a429_text.specs.declared.sheets.SheetForm.TheVariants.{Columns, Csv, Json}
use Rattle.a429_text.specs.Fields.{Field, Text, Number, Signed, Tenths, Absent, texts_of, json_text}
use Rattle.a429_text.specs.Aligned.{aligned_text}
use Rattle.a429_text.specs.Texts.{formula, octal}
use Rattle.a429_word.specs.Hexadecimal.{hex}

-- what is written into a cell
abbrev pub field_of : Cell → Field
field_of (given.Text words) = Text words.now
field_of (given.Number number) = Number number
field_of (given.Signed number) = Signed number
field_of (given.Tenths number) = Tenths number
field_of (given.Hex raw) = Text (hex raw)
field_of (given.Octal value) = Text (octal value)
field_of (given.OctalFormula value) = Text (formula (octal value))
field_of given.Absent = Absent

-- what a row keeps of it
abbrev pub kept_field : KeptCell → Field
kept_field (kept.Text text) = Text text
kept_field (kept.Number number) = Number number
kept_field (kept.Signed number) = Signed number
kept_field (kept.Tenths number) = Tenths number
kept_field kept.Absent = Absent

-- a line for each row, with commas between its fields (RFC 4180, with a line feed at each line's end)
unfoldable pub csv_text_of : List (List (List ℕ)) → List ℕ
csv_text_of rows = flat_map (row_text default_writer) rows

-- the text of a cell
abbrev pub cell_text : Field → Option (List ℕ)
cell_text (Text text) = Some text
cell_text _ = None

-- of the cell of a row in a column
abbrev pub text_in : ℕ → List Field → Option (List ℕ)
text_in column row = option_and_then cell_text (slice_get row column)

-- of that in a row and a column
abbrev pub text_at : ℕ → ℕ → List (List Field) → Option (List ℕ)
text_at row column rows = option_and_then (text_in column) (slice_get rows row)

-- a sheet in one of its forms: the names of the columns and then each row, or an array of objects
abbrev pub sheet_text : SheetForm → List (List ℕ) → List (List Field) → List ℕ
sheet_text Columns columns rows = aligned_text (texts_of (codes "-") columns rows)
sheet_text Csv columns rows = csv_text_of (texts_of [] columns rows)
sheet_text Json columns rows = json_text columns rows
