-- Columns of a sheet that comments of a table bring (profile: docs/FORMATS.md, Columns of your own).
use Rattle.std.specs.Prelude.{◌++◌, ◌∷◌, ◌==◌, ◌-◌, ◌&&◌, ◌||◌, ◌+◌, [], ℕ, List, Option, Some, None, if◌then◌else◌, drop, filter_map, length, map, nat_le, option_and_then, take}
use Rattle.std.specs.Char.{is_ascii_whitespace}
use Rattle.std.specs.List.{list_any, prefix_len, suffix_len}
use Rattle.std.specs.Str.{bytes_eq, is_utf8}
use Rattle.a429_text.specs.CutText.{cut, lines_of}
use Rattle.a429_text.specs.Fields.{Field, Text, Absent}
use Rattle.a429_text.specs.Sheets.{sheet_text, text_in}
use Rattle.a429_text.specs.declared.sheets.SheetForm.{SheetForm}
use Rattle.a429_documents.specs.declared.kept.KeptText.{KeptText}

-- ---- comments

-- what a comment says of a source: the source, the column, and the text in it
abbrev pub Said : Type 0
Said = List ℕ × List ℕ × List ℕ

abbrev pub said_by : KeptText → Said
said_by t = (t.source.now, t.column.now, t.text.now)

-- without the blanks at both ends
unfoldable pub trimmed : List ℕ → List ℕ
trimmed s =
    let t = drop (prefix_len is_ascii_whitespace s) s in
    take (length t - suffix_len is_ascii_whitespace t) t

abbrev pub utf8_text : List ℕ → Option (List ℕ)
utf8_text s = if is_utf8 s then Some s else None

-- a part of a comment, which is a text
unfoldable pub part_in : List ℕ → Option (List ℕ)
part_in s = utf8_text (trimmed s)

abbrev pub all_three : Option (List ℕ) → Option (List ℕ) → Option (List ℕ) → Option Said
all_three (Some a) (Some b) (Some c) = Some (a, b, c)
all_three _ _ _ = None

-- what follows `#:`
abbrev pub after_mark : List ℕ → Option (List ℕ)
after_mark (a ∷ b ∷ rest) = if a == 35 && b == 58 then Some rest else None
after_mark _ = None

-- the column and the text, with a bar between them, of a source
abbrev pub of_source : List ℕ → Option (List ℕ × List ℕ) → Option Said
of_source source None = None
of_source source (Some p) = all_three (part_in source) (part_in p.0) (part_in p.1)

-- the source and the rest, with a bar between them
abbrev pub in_parts : Option (List ℕ × List ℕ) → Option Said
in_parts None = None
in_parts (Some p) = of_source p.0 (cut 124 p.1)

-- a line `#: SOURCE | COLUMN | TEXT`
unfoldable pub kept_in : List ℕ → Option Said
kept_in line = option_and_then (λ rest. in_parts (cut 124 rest)) (after_mark line)

-- the lines of a text; the last one may be without a line feed
abbrev pub all_lines : List ℕ → List (List ℕ)
all_lines text = (lines_of text).0 ++ (lines_of text).1 ∷ []

-- what the comments of a table say
unfoldable pub kept_texts : List ℕ → List Said
kept_texts table = filter_map kept_in (all_lines table)

-- ---- columns

-- a column after those of a sheet that has this many of its own; not twice
abbrev pub with_column : ℕ → List (List ℕ) → List ℕ → List (List ℕ)
with_column own columns column = if list_any (bytes_eq column) columns || nat_le (own + 16) (length columns) then columns else columns ++ column ∷ []

-- the columns of a sheet, and those that comments bring, in the order of their first lines
abbrev pub with_columns : ℕ → List (List ℕ) → List Said → List (List ℕ)
with_columns own columns [] = columns
with_columns own columns (t ∷ ts) = with_columns own (with_column own columns t.1) ts

-- ---- rows

-- the text of a source in a column: that of the first such comment
abbrev pub kept_field : List Said → List ℕ → List ℕ → Field
kept_field [] source column = Absent
kept_field (t ∷ ts) source column = if bytes_eq t.0 source && bytes_eq t.1 column then Text t.2 else kept_field ts source column

-- the same of a row; one without a source has none
abbrev pub field_at : List Said → Option (List ℕ) → List ℕ → Field
field_at texts None column = Absent
field_at texts (Some source) column = kept_field texts source column

-- a row whose source is in this place, with the columns that comments bring
abbrev pub wider_row : List Said → List (List ℕ) → ℕ → List Field → List Field
wider_row texts columns place row = row ++ map (field_at texts (text_in place row)) columns

-- a sheet with these columns
unfoldable pub kept_sheet : SheetForm → List Said → List (List ℕ) → ℕ → List (List Field) → List ℕ
kept_sheet form texts names place rows =
    let columns = with_columns (length names) names texts in
    sheet_text form columns (map (wider_row texts (drop (length names) columns) place) rows)
