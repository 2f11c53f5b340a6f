-- On which line the fault is that comes before those of rows: a field with wrong quotes, or a row of data above the heading (profile: import).
use Rattle.std.specs.Prelude.{ℕ, Bool, true, false, List, [], ◌∷◌, Option, None, Some, if◌then◌else◌, length, map, ◌==◌, ◌&&◌, is_some}
use Rattle.std.specs.Option.{option_map, option_or, option_map_or}
use Rattle.csv.specs.Machine.{step, next_record}
use Rattle.csv.specs.Reading.{records, strip_bom}
use Rattle.csv.specs.declared.parser.Config.{Config}
use Rattle.csv.specs.declared.parser.State.{State}
use Rattle.csv.specs.declared.parser.State.TheVariants as st
use Rattle.a429_import.specs.ImportMaps.{names_by}
use Rattle.a429_import.specs.ImportQuotes.{breaks_quotes, is_inside_quotes, text_before}
use Rattle.a429_import.specs.ImportSteps.{begins_field}
use Rattle.a429_import.specs.ImportWords.{trimmed}
use Rattle.a429_import.specs.RowLines.{from_row, line_of, row_lines}
use Rattle.std.specs.List.{list_any}
use Rattle.a429_import.specs.declared.fault.ImportColumn.TheVariants.{Label}
use Rattle.a429_import.specs.ImportFields.{label_in}
use Rattle.a429_import.specs.ImportRows.{column_field}

-- the fields of the first row of a text, without blanks round them; none if it has no row
abbrev pub first_row : Config → List ℕ → List (List ℕ)
first_row cfg text = map trimmed (option_map_or (λ row. row.0) (next_record cfg st.StartRecord [] [] (strip_bom text)) [])

-- fields are those of a row of data: the row has as many as the heading, and a label in the column `label`
abbrev pub is_data : List (List ℕ) → List (List ℕ) → Bool
is_data heading fields = (length fields == length heading) && is_some (label_in (column_field heading fields Label))

-- a text has such a row
abbrev pub has_data : Config → List (List ℕ) → List ℕ → Bool
has_data cfg heading text = list_any (λ fields. is_data heading (map trimmed fields)) (records cfg (strip_bom text))

-- such a row is above the heading: above the rest of a text, whose first row is the heading and has its names by texts HEADING=COLUMN
abbrev pub has_data_above : Config → List (List ℕ) → List ℕ → List ℕ → Bool
has_data_above cfg maps rest text = has_data cfg (names_by maps (first_row cfg rest)) (text_before rest text)

-- a text from the beginning of its first field with wrong quotes on, if it has one. The bytes that follow a state are read; the text from the beginning of
-- their field on is given
unfoldable pub wrong_from : Bool → Config → State → List ℕ → List ℕ → Option (List ℕ)
wrong_from of_rows cfg s field [] = if is_inside_quotes s then Some field else None
wrong_from of_rows cfg s field (c ∷ rest) =
    if breaks_quotes of_rows s (step cfg s c).0 then Some field
    else wrong_from of_rows cfg (step cfg s c).0 (if begins_field (step cfg s c).0 then rest else field) rest

-- the same from the beginning of a text
abbrev pub wrong_in : Bool → Config → List ℕ → Option (List ℕ)
wrong_in of_rows cfg text = wrong_from of_rows cfg st.StartRecord text text

-- the line of a text on which such a field of an end of it begins. A byte order mark may come first
abbrev pub wrong_line : Bool → Config → List ℕ → List ℕ → Option ℕ
wrong_line of_rows cfg text end = option_map (λ field. line_of text (from_row field)) (wrong_in of_rows cfg (strip_bom end))

-- the first such line: above the heading, or from it on
abbrev pub quotes_line : Config → List ℕ → List ℕ → Option ℕ
quotes_line cfg rows text = option_or (wrong_line false cfg (text_before rows text) (text_before rows text)) (wrong_line true cfg text rows)

-- the number next to the first row that passes
unfoldable pub number_of : (List (List ℕ) → Bool) → List (List (List ℕ)) → List ℕ → Option ℕ
number_of passes [] numbers = None
number_of passes (row ∷ rows) [] = None
number_of passes (row ∷ rows) (number ∷ numbers) = if passes row then Some number else number_of passes rows numbers

-- the line of a text on which its first row of data begins
abbrev pub data_line : Config → List (List ℕ) → List ℕ → Option ℕ
data_line cfg heading text =
    number_of (λ fields. is_data heading (map trimmed fields)) (records cfg (strip_bom text)) (row_lines cfg text (length (records cfg (strip_bom text))) text)

-- the line on which the first row of data above the heading begins
abbrev pub data_line_above : Config → List (List ℕ) → List ℕ → List ℕ → Option ℕ
data_line_above cfg maps rest text = data_line cfg (names_by maps (first_row cfg rest)) (text_before rest text)

-- the first of these lines: wrong quotes come before rows of data
abbrev pub fault_line : Config → List (List ℕ) → List ℕ → List ℕ → Option ℕ
fault_line cfg maps rest text = option_or (quotes_line cfg rest text) (data_line_above cfg maps rest text)
