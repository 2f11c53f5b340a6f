-- Columns of a sheet that go along as comments of the table (profile: import).
use Rattle.std.specs.Prelude.{◌≡◌, ℕ, ◌==◌, ◌&&◌, ◌||◌, Bool, true, false, List, [], ◌∷◌, ◌++◌, Option, None, Some, codes, if◌then◌else◌, map, nat_lt, unwrap_or}
use Rattle.std.specs.List.{find, flat_map, list_all}
use Rattle.std.specs.Option.{option_map, option_map_or}
use Rattle.std.specs.Str.{bytes_eq, is_utf8}
use Rattle.csv.specs.Records.{fields_of}
use Rattle.toml_parser.specs.Lexical.{is_non_eol}
use Rattle.a429_text.specs.CutText.{lines_of}
use Rattle.a429_import.specs.declared.fault.ImportColumn.TheVariants.{Source}
use Rattle.a429_import.specs.declared.kept.KeptTexts.{KeptTexts}
use Rattle.a429_text.specs.declared.csv_line.CsvLine.{CsvLine}
use Rattle.a429_import.specs.ImportFields.{utf8_in}
use Rattle.a429_import.specs.ImportRows.{column_field, has_label}
use Rattle.a429_import.specs.ImportTables.{is_word}

-- ---- the fields of a row

-- the heading of such a column, whose name begins with `#:`
abbrev pub kept_heading : List ℕ → Option (List ℕ)
kept_heading (a ∷ b ∷ rest) = if a == 35 && b == 58 then Some rest else None
kept_heading _ = None

-- a byte in a comment: a space for a control character, and `?` for a byte above 127 of a text that is no UTF-8. In a heading `/` is for `|`
abbrev pub shown_byte : Bool → Bool → ℕ → ℕ
shown_byte is_text is_heading b =
    if nat_lt b 32 || b == 127 then 32 else if b == 124 && is_heading then 47 else if nat_lt b 128 || is_text then b else 63

abbrev pub shown : Bool → List ℕ → List ℕ
shown is_heading text = map (shown_byte (is_utf8 text) is_heading) text

-- a line `HEADING | FIELD`; nothing for an empty field
abbrev pub kept_line : Option (List ℕ) → List ℕ → List ℕ
kept_line None field = []
kept_line (Some heading) field = if is_word field then shown true heading ++ (codes " | " ++ (shown false field ++ 10 ∷ [])) else []

-- these lines of a row
abbrev pub kept_in : List (List ℕ) → List (List ℕ) → List ℕ
kept_in [] fields = []
kept_in (name ∷ names) [] = []
kept_in (name ∷ names) (field ∷ fields) = kept_line (kept_heading name) field ++ kept_in names fields

-- ---- the rows of a source

-- a row of this source that is no note, and has such a line
abbrev pub is_kept : List (List ℕ) → List ℕ → CsvLine → Bool
is_kept heading source line =
    bytes_eq source (column_field heading (fields_of line.fields) Source) && (has_label heading line && is_word (kept_in heading (fields_of line.fields)))

-- the lines of the first such row
abbrev pub first_kept : List (List ℕ) → List CsvLine → List ℕ → Option (List ℕ)
first_kept heading below source = option_map (λ line. kept_in heading (fields_of line.fields)) (find (is_kept heading source) below)

-- the same, of lines of which the first is the heading; nothing if there is none
abbrev pub kept_of : List CsvLine → List ℕ → List ℕ
kept_of [] source = []
kept_of (heading ∷ below) source = unwrap_or (first_kept (fields_of heading.fields) below source) []

-- ---- what is known of rows

-- the lines of a source
abbrev pub kept_at : KeptTexts → List ℕ → Option (List ℕ)
kept_at kept source = option_map (λ text. text.lines.items) (find (λ text. bytes_eq source text.source.items) kept.texts.items)

-- the lines of a source; nothing if there are none
abbrev pub lines_kept : KeptTexts → List ℕ → List ℕ
lines_kept kept source = unwrap_or (kept_at kept source) []

-- the texts are those of the rows below a heading
abbrev pub KeepsTexts : KeptTexts → List (List ℕ) → List CsvLine → Type 0
KeepsTexts kept heading below = (source : List ℕ) → kept_at kept source ≡ first_kept heading below source

-- a text of a source, unless there is one before
abbrev pub or_text : List ℕ → List ℕ → Option (List ℕ) → List ℕ → Option (List ℕ)
or_text source text None other = if bytes_eq other source then Some text else None
or_text source text (Some before) other = Some before

abbrev pub TakesText : KeptTexts → KeptTexts → List ℕ → List ℕ → Type 0
TakesText old new source text = (other : List ℕ) → kept_at new other ≡ or_text source text (kept_at old other) other

-- ---- comments

-- a comment of a table, unless a byte cannot be in one
abbrev pub comment_of : List ℕ → List ℕ
comment_of line = if list_all is_non_eol line then 35 ∷ (line ++ 10 ∷ []) else []

-- the same, if the line is a text
unfoldable pub comment_line : List ℕ → List ℕ
comment_line line = option_map_or comment_of (utf8_in line) []

-- a comment `#: SOURCE | HEADING | FIELD` for each line
abbrev pub kept_comments : List ℕ → List ℕ → List ℕ
kept_comments name kept = flat_map (λ line. comment_line (codes ": " ++ (name ++ (codes " | " ++ line)))) (lines_of kept).0
