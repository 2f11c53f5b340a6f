-- What is imported from a text of comma-separated values: a table, or why there is none (profile: import).
use Rattle.std.specs.Prelude.{◌≡◌, ◌==◌, ◌||◌, ℕ, Bool, true, false, not, List, filter, if◌then◌else◌, length, map, Option, None, Some, Result, Ok, Err}
use Rattle.std.specs.List.{AllByRecursion, list_any}
use Rattle.csv.specs.Reading.{AreRecords, default_config, strip_bom}
use Rattle.csv.specs.Records.{fields_of}
use Rattle.csv.specs.declared.parser.Config.{Config}
use Rattle.csv.specs.declared.parser.State.TheVariants as st
use Rattle.toml.specs.Data.{table}
use Rattle.a429_table.specs.declared.fault.TableFault.TheVariants as fault
use Rattle.a429_table.specs.Faults.{faults, first}
use Rattle.a429_table.specs.Reading.{reading}
use Rattle.a429_import.specs.declared.fault.CsvFaultKind.TheVariants.{Form}
use Rattle.a429_import.specs.declared.import.Imported.{Imported}
use Rattle.a429_import.specs.declared.import.ImportOptions.{ImportOptions}
use Rattle.a429_import.specs.declared.fault.ImportFault.{ImportFault}
use Rattle.a429_import.specs.declared.fault.ImportFault.TheVariants.{NoMemory, Csv, Table}
use Rattle.a429_text.specs.declared.csv_line.CsvLine.{CsvLine}
use Rattle.a429_import.specs.declared.rows.ImportRow.{ImportRow}
use Rattle.a429_import.specs.FaultLines.{fault_line, has_data_above}
use Rattle.a429_import.specs.ImportForms.{from_heading, separator_in}
use Rattle.a429_import.specs.ImportMaps.{AreNamedBy}
use Rattle.a429_import.specs.ImportQuotes.{has_wrong_quotes}
use Rattle.a429_import.specs.ImportRows.{CsvFault, note_count, rows_stated}
use Rattle.a429_import.specs.ImportTables.{root_members, record_stated}
use Rattle.a429_import.specs.ImportWords.{trimmed}
use Rattle.a429_import.specs.FilledLines.{AreFilledBelow}
use Rattle.a429_import.specs.KeyedLines.{AreKeyed}
use Rattle.a429_import.specs.KeptFields.{kept_of}
use Rattle.a429_import.specs.Renamed.{all_renamed}
use Rattle.a429_import.specs.RowLines.{row_lines}
use Rattle.a429_import.specs.TableTexts.{IsTableText}

-- the result is the one of the rows, unless an allocation failed; the fault of a table cannot come here
abbrev pub States : {X Y : Type 0} → (X → Y) → Result X ImportFault → Result Y CsvFault → Type 0
States view (Ok x) stated = stated ≡ Ok (view x)
States view (Err NoMemory) stated = Unit {0}
States view (Err (Csv line kind column)) stated = stated ≡ Err (line, kind, column)
States view (Err (Table fault)) stated = ⊥

-- how the library `csv` reads a text whose fields this separates
abbrev pub separated : ℕ → Config
separated separator = record default_config { delimiter = separator }

-- a field is not empty
abbrev pub is_filled : List ℕ → Bool
is_filled field = not (length field == 0)

-- a row has such a field
abbrev pub has_text : List (List ℕ) → Bool
has_text fields = list_any is_filled fields

-- the rows of a text from its heading on, as the library `csv` reads them, each with its separator and the line of the text on which it begins; without
-- blanks round fields, and without the rows whose fields are all empty
pub record AreLines (maps : List (List ℕ)) (text : List ℕ) (lines : List CsvLine) : Type 0 where
  pub all : List CsvLine
  pub rows : List (List (List ℕ))
  pub records : AreRecords (separated (separator_in maps text)) st.StartRecord (strip_bom (from_heading maps text)) rows
  pub fields : map (λ l. fields_of l.fields) all ≡ map (map trimmed) rows
  pub separators : AllByRecursion (λ l. l.separator ≡ separator_in maps text) all
  pub numbers : map (λ l. l.number) all ≡ row_lines (separated (separator_in maps text)) text (length all) (from_heading maps text)
  pub filled : lines ≡ filter (λ l. has_text (fields_of l.fields)) all

-- the same, with the names of the heading by texts HEADING=COLUMN
abbrev pub AreNamedLines : List (List ℕ) → List ℕ → List CsvLine → Type 0
AreNamedLines maps text lines = (read : List CsvLine) × (is_below : Bool) × AreLines maps text read × AreNamedBy maps is_below read lines

-- a field in quotes does not end with a quote and a separator or a line end: the text ends within one, or text follows the quote
abbrev pub is_misquoted_text : List (List ℕ) → List ℕ → Bool
is_misquoted_text maps text = has_wrong_quotes (separated (separator_in maps text)) (from_heading maps text) text

-- a row of data is above the heading: as many fields as the heading has, and a label in its column
abbrev pub has_row_above : List (List ℕ) → List ℕ → Bool
has_row_above maps text = has_data_above (separated (separator_in maps text)) maps (from_heading maps text) text

-- The import of lines: the text is read as the record of the rows, and has the comments of the columns that go along. The notes are counted. A table is
-- refused for its first fault
abbrev pub IsImportOf : List CsvLine → Result Imported ImportFault → Type 0
IsImportOf lines (Ok imported) =
    (rows : List ImportRow) × (rows_stated lines ≡ Ok rows) × (reading imported.text.items ≡ Ok (record_stated rows)) × (imported.notes ≡ note_count lines)
    × (imported.equipment ≡ record_stated rows) × IsTableText (kept_of lines) None rows imported.text.items
IsImportOf lines (Err NoMemory) = Unit {0}
IsImportOf lines (Err (Csv line kind column)) = rows_stated lines ≡ Err (line, kind, column)
IsImportOf lines (Err (Table fault.NoMemory)) = ⊥
IsImportOf lines (Err (Table (fault.At kind place))) =
    (rows : List ImportRow) × (rows_stated lines ≡ Ok rows) × (first (faults (table (root_members rows))) ≡ Some (kind, place))

-- a table is read as the record of rows, with these lines of sources, and the rows before names were made; it is refused for its first fault
abbrev pub IsTableOf : (List ℕ → List ℕ) → Option (List ImportRow) → List ImportRow → Result Imported ImportFault → Type 0
IsTableOf kept before rows (Ok made) = (reading made.text.items ≡ Ok (record_stated rows)) × (made.equipment ≡ record_stated rows) × IsTableText kept before rows made.text.items
IsTableOf kept before rows (Err NoMemory) = Unit {0}
IsTableOf kept before rows (Err (Table (fault.At kind place))) = first (faults (table (root_members rows))) ≡ Some (kind, place)
IsTableOf kept before rows (Err _) = ⊥

-- rows, with names if the flag is set
abbrev pub rows_by : Bool → List ImportRow → List ImportRow
rows_by makes_names rows = if makes_names then all_renamed rows else rows

-- the table of rows, with names if the flag is set
abbrev pub IsTableBy : (List ℕ → List ℕ) → Bool → List ImportRow → Result Imported ImportFault → Type 0
IsTableBy kept makes_names rows result = IsTableOf kept (if makes_names then Some rows else None) (rows_by makes_names rows) result

-- the same, of the rows that lines state
abbrev pub IsNamedImport : List CsvLine → Result Imported ImportFault → Type 0
IsNamedImport lines (Ok imported) =
    (rows : List ImportRow) × (rows_stated lines ≡ Ok rows) × IsTableBy (kept_of lines) true rows (Ok imported) × (imported.notes ≡ note_count lines)
IsNamedImport lines (Err NoMemory) = Unit {0}
IsNamedImport lines (Err (Csv line kind column)) = rows_stated lines ≡ Err (line, kind, column)
IsNamedImport lines (Err (Table fault)) = (rows : List ImportRow) × (rows_stated lines ≡ Ok rows) × IsTableBy (kept_of lines) true rows (Err (Table fault))

-- the same, with names if the flag is set
abbrev pub IsImportFrom : Bool → List CsvLine → Result Imported ImportFault → Type 0
IsImportFrom false lines result = IsImportOf lines result
IsImportFrom true lines result = IsNamedImport lines result

-- the import of lines, with names if the flag is set: sources differ if their texts, receivers, labels or SDIs do
abbrev pub IsImportBy : Bool → List CsvLine → Result Imported ImportFault → Type 0
IsImportBy false lines result = IsImportOf lines result
IsImportBy true lines result = (keyed : List CsvLine) × AreKeyed lines keyed × IsNamedImport keyed result

-- the same; if the flag is set, empty fields of groups, bit rates and receivers are filled from above before names are made
abbrev pub IsFilledImport : Bool → Bool → List CsvLine → Result Imported ImportFault → Type 0
IsFilledImport false makes_names lines result = IsImportBy makes_names lines result
IsFilledImport true makes_names lines result = (filled : List CsvLine) × AreFilledBelow lines filled × IsImportBy makes_names filled result

-- the same of lines whose heading gets its names by texts HEADING=COLUMN
abbrev pub IsSheetImport : List (List ℕ) → ImportOptions → List CsvLine → Result Imported ImportFault → Type 0
IsSheetImport maps options lines result = (is_below : Bool) × (named : List CsvLine) × AreNamedBy maps is_below lines named × IsFilledImport options.fills options.makes_names named result

-- the line of the fault that comes before those of rows
abbrev pub text_fault_line : List (List ℕ) → List ℕ → Option ℕ
text_fault_line maps text = fault_line (separated (separator_in maps text)) maps (from_heading maps text) text

-- the import of a text, unless its quotes are wrong or a row of data is above its heading: then no other line is looked at
abbrev pub IsImportIf : Bool → List (List ℕ) → ImportOptions → List ℕ → Result Imported ImportFault → Type 0
IsImportIf true maps options text result = (line : ℕ) × (text_fault_line maps text ≡ Some line) × (result ≡ Err (Csv line Form None))
IsImportIf false maps options text result =
    (lines : List CsvLine) × AreNamedLines maps text lines × IsFilledImport options.fills options.makes_names lines result

-- a text has such a fault
abbrev pub is_unfit : List (List ℕ) → List ℕ → Bool
is_unfit maps text = is_misquoted_text maps text || has_row_above maps text

-- the import of a text; an allocation may fail before all lines are known
abbrev pub IsImport : List (List ℕ) → ImportOptions → List ℕ → Result Imported ImportFault → Type 0
IsImport maps options text (Err NoMemory) = Unit {0}
IsImport maps options text result = IsImportIf (is_unfit maps text) maps options text result
