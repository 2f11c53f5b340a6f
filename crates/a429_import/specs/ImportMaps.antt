-- The heading of rows, by texts HEADING=COLUMN: such a text says that a heading is the name of a column (profile: import).
use Rattle.std.specs.Borrow.{Bor}
use Rattle.std.specs.Prelude.{◌≡◌, ℕ, ◌==◌, ◌&&◌, ◌||◌, Bool, true, false, not, List, [], ◌∷◌, ◌++◌, Option, None, Some, codes, if◌then◌else◌, length, map}
use Rattle.std.specs.List.{count_by, find, list_all, list_any}
use Rattle.std.specs.Option.{option_map_or}
use Rattle.std.specs.Str.{bytes_eq}
use Rattle.csv.specs.Records.{fields_of}
use Rattle.a429_text.specs.Renames.{halves}
use Rattle.a429_text.specs.declared.csv_line.CsvLine.{CsvLine}
use Rattle.a429_import.specs.ImportRows.{is_column}
use Rattle.a429_import.specs.Letters.{same_heading}

-- the bytes of texts
abbrev pub given_texts : List (Bor (List ℕ)) → List (List ℕ)
given_texts maps = map (λ text. text.now) maps

-- ---- one field of a heading

abbrev pub is_for : List ℕ → Option (List ℕ × List ℕ) → Bool
is_for field None = false
is_for field (Some p) = same_heading p.0 field

-- the HEADING of a text is this field
abbrev pub is_about : List ℕ → List ℕ → Bool
is_about field text = is_for field (halves text)

-- the COLUMN of a text
abbrev pub column_in : List ℕ → List ℕ
column_in text = option_map_or (λ p. p.1) (halves text) []

-- the name of a field: COLUMN of the first text that is about it; its own if there is none
abbrev pub mapped : List (List ℕ) → List ℕ → List ℕ
mapped maps field = option_map_or column_in (find (is_about field) maps) field

-- COLUMN of a text is `#:`: the column of HEADING goes along as comments
abbrev pub is_keep : List ℕ → Bool
is_keep text = bytes_eq (column_in text) (codes "#:")

-- the text HEADING=COLUMN by which the column of a heading goes along as comments
abbrev pub keep_text : List ℕ → List ℕ
keep_text heading = heading ++ codes "=#:"

-- all texts HEADING=COLUMN: those of the columns that are read, and those of the headings that go along
abbrev pub heading_texts : List (List ℕ) → List (List ℕ) → List (List ℕ)
heading_texts maps keeps = maps ++ map keep_text keeps

-- the first text that is about a field says so
abbrev pub keeps : List (List ℕ) → List ℕ → Bool
keeps maps field = option_map_or is_keep (find (is_about field) maps) false

-- the name of a field in the heading: after `#:` its own, if its column goes along
abbrev pub titled : List (List ℕ) → List ℕ → List ℕ
titled maps field = if keeps maps field then codes "#:" ++ field else mapped maps field

-- ---- all fields of a heading

-- the column of a field can go along: it has a heading, which is no name of a column, and no text before says that it is one
abbrev pub can_keep : List (List ℕ) → List ℕ → Bool
can_keep maps field = keeps maps field && not (length field == 0 || is_column field)

-- a text is about a field; if the flag is set, the column can go along
abbrev pub counts : List (List ℕ) → List ℕ → Bool → List ℕ → Bool
counts maps text is_kept field = is_about field text && (not is_kept || can_keep maps field)

abbrev pub is_once : List (List ℕ) → List (List ℕ) → List ℕ → Bool → Bool
is_once maps heading text is_kept = count_by (counts maps text is_kept) heading == 1

-- COLUMN of a text is the name of a column, and HEADING is a field of the heading. Or it is `#:`, and HEADING is one field, whose column can go along
abbrev pub is_met : List (List ℕ) → List (List ℕ) → List ℕ → Bool
is_met maps heading text =
    if is_keep text then is_once maps heading text false && is_once maps heading text true
    else is_column (column_in text) && list_any (λ field. is_about field text) heading

-- the names of a heading; it has none if one of the texts is not met
abbrev pub names_by : List (List ℕ) → List (List ℕ) → List (List ℕ)
names_by maps heading = if list_all (is_met maps heading) maps then map (titled maps) heading else []

-- a line is the heading with its names by the texts
pub record IsNamedBy (maps : List (List ℕ)) (heading named : CsvLine) : Type 0 where
  pub number : named.number ≡ heading.number
  pub separator : named.separator ≡ heading.separator
  pub fields : fields_of named.fields ≡ names_by maps (fields_of heading.fields)

-- the same for the first of these lines; the others stay. The flag says whether there is one
abbrev pub AreNamedBy : List (List ℕ) → Bool → List CsvLine → List CsvLine → Type 0
AreNamedBy maps is_below [] lines = (is_below ≡ false) × (lines ≡ [])
AreNamedBy maps is_below (heading ∷ below) lines = (is_below ≡ true) × ((named : CsvLine) × IsNamedBy maps heading named × (lines ≡ named ∷ below))
