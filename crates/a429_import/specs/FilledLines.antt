-- Lines whose empty fields are filled from above, as merged cells of a spreadsheet are meant (profile: import).
use Rattle.std.specs.Prelude.{◌≡◌, ℕ, suc, ◌==◌, ◌&&◌, ◌||◌, Bool, List, [], ◌∷◌, if◌then◌else◌, length}
use Rattle.csv.specs.Records.{fields_of}
use Rattle.a429_import.specs.declared.fault.ImportColumn.TheVariants.{Group, Rate, Receiver}
use Rattle.a429_text.specs.declared.csv_line.CsvLine.{CsvLine}
use Rattle.a429_import.specs.ImportFields.{field_in}
use Rattle.a429_import.specs.ImportRows.{is_named}

-- a field of the heading is the name of a column that is filled
abbrev pub is_filled_column : List ℕ → Bool
is_filled_column heading = is_named Group heading || (is_named Rate heading || is_named Receiver heading)

-- the field below a field of the heading, or if it is empty the one above it
abbrev pub filled_below : List ℕ → List ℕ → List ℕ → List ℕ
filled_below heading above field = if is_filled_column heading && (length field == 0) then above else field

-- the same for all fields of a line from a place on; those of the line above it are known
abbrev pub filled_from : ℕ → List (List ℕ) → List (List ℕ) → List (List ℕ) → List (List ℕ)
filled_from place heading above [] = []
filled_from place heading above (field ∷ fields) =
    filled_below (field_in place heading) (field_in place above) field ∷ filled_from (suc place) heading above fields

-- a line below a heading, with its empty fields filled from those of the line above it
pub record IsFilledLine (heading above : List (List ℕ)) (line filled : CsvLine) : Type 0 where
  pub number : filled.number ≡ line.number
  pub separator : filled.separator ≡ line.separator
  pub fields : fields_of filled.fields ≡ filled_from 0 heading above (fields_of line.fields)

-- the same for lines one below the other: each is filled from the one above it, after that was filled
abbrev pub AreFilled : List (List ℕ) → List (List ℕ) → List CsvLine → List CsvLine → Type 0
AreFilled heading above [] filled = filled ≡ []
AreFilled heading above (line ∷ lines) filled =
    (first : CsvLine) × (rest : List CsvLine) × IsFilledLine heading above line first × AreFilled heading (fields_of first.fields) lines rest × (filled ≡ first ∷ rest)

-- the same for all lines below the first, which is the heading. Nothing is above its first line: empty fields stay empty there
abbrev pub AreFilledBelow : List CsvLine → List CsvLine → Type 0
AreFilledBelow [] filled = filled ≡ []
AreFilledBelow (heading ∷ below) filled = (rest : List CsvLine) × AreFilled (fields_of heading.fields) [] below rest × (filled ≡ heading ∷ rest)
