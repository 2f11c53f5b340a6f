-- A sheet as comma-separated values is read back (RFC 4180).
use Rattle.std.specs.Prelude.{◌≡◌, ◌≢◌, [], List, ℕ}
use Rattle.std.specs.List.{AllByRecursion}
use Rattle.csv.specs.Reading.{AreRecords, default_config, strip_bom}
use Rattle.csv.specs.declared.parser.State.TheVariants as st
use Rattle.a429_text.specs.Fields.{Field, texts_of}
use Rattle.a429_text.specs.Sheets.{sheet_text}
use Rattle.a429_text.specs.declared.sheets.SheetForm.TheVariants.{Csv}

-- these are all rows that a reader of comma-separated values finds in a text
abbrev pub AreReadFrom : List ℕ → List (List (List ℕ)) → Type 0
AreReadFrom text records = AreRecords default_config st.StartRecord (strip_bom text) records

-- each row has a cell
abbrev pub HaveCells : List (List (List ℕ)) → Type 0
HaveCells rows = AllByRecursion (λ (row : List (List ℕ)). row ≢ []) rows

-- The rows that are read are the names of the columns and the texts of the cells; a cell that says nothing is empty. Each row has a cell. The text does
-- not begin with a byte order mark, which a reader drops.
abbrev pub SheetsAreReadBack : Type 0
SheetsAreReadBack =
    (columns : List (List ℕ)) (rows : List (List Field)) (records : List (List (List ℕ))) → HaveCells (texts_of [] columns rows)
    → strip_bom (sheet_text Csv columns rows) ≡ sheet_text Csv columns rows → AreReadFrom (sheet_text Csv columns rows) records → records ≡ texts_of [] columns rows
