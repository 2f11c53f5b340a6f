-- The command `import`: what it writes, and its status (profile: import).
use Rattle.std.specs.Prelude.{◌≡◌, ◌⊎◌, ◌<◌, ℕ, true, List, Option, Result, Ok, Err, Some, length, slice_get}
use Rattle.std.specs.List.{AllByRecursion}
use Rattle.a429_grid.specs.Grid.{HasNoGridPeriod}
use Rattle.a429_documents.specs.Lint.{IsMillisGroup}
use Rattle.a429_equipment.specs.TableRecord.{TableRecord}
use Rattle.a429_equipment.specs.declared.rows.GroupRow.{GroupRow}
use Rattle.a429_equipment.specs.declared.rows.OutputRow.{OutputRow}
use Rattle.a429_table.specs.declared.fault.TableFault.TheVariants as fault
use Rattle.a429_import.specs.Imports.{IsImport}
use Rattle.a429_import.specs.declared.import.Imported.{Imported}
use Rattle.a429_import.specs.declared.import.ImportOptions.{ImportOptions}
use Rattle.a429_import.specs.declared.fault.CsvFaultKind.{CsvFaultKind}
use Rattle.a429_import.specs.declared.fault.CsvFaultKind.TheVariants as rows
use Rattle.a429_import.specs.declared.fault.ImportFault.{ImportFault}
use Rattle.a429_import.specs.declared.fault.ImportFault.TheVariants as wrong
use Rattle.a429_console.specs.WholeReplies.{Replies}
use Rattle.a429_console.specs.declared.reply.Reply.{Reply}
use Rattle.a429_console.specs.FileReadings.{IsFileRefusal, readable}
use Rattle.a429_console.specs.declared.refusals.CommandRefusal.{CommandRefusal}
use Rattle.a429_console.specs.declared.refusals.CommandRefusal.TheVariants as refused
use Rattle.a429_console.specs.declared.refusals.kinds.CsvKind.{CsvKind}
use Rattle.a429_console.specs.declared.refusals.kinds.CsvKind.TheVariants as csv

-- what is wrong with a row, as a refusal has it
abbrev pub csv_kind : CsvFaultKind → CsvKind
csv_kind rows.Form = csv.Form
csv_kind rows.Column = csv.Column
csv_kind rows.Differs = csv.Differs
csv_kind rows.TooMany = csv.TooMany

-- the refusal for a fault
abbrev pub import_refusal : ImportFault → CommandRefusal
import_refusal wrong.NoMemory = refused.Memory
import_refusal (wrong.Csv line kind column) = refused.Csv line (csv_kind kind)
import_refusal (wrong.Table fault.NoMemory) = refused.Memory
import_refusal (wrong.Table (fault.At kind place)) = refused.Table kind place

-- the rows of a file's bytes are imported as this text. The heading is read by texts HEADING=COLUMN, and the rows as the options say
abbrev pub IsImportText : List (List ℕ) → ImportOptions → List ℕ → List ℕ → Type 0
IsImportText maps options bytes text = (imported : Imported) × IsImport maps options bytes (Ok imported) × (text ≡ imported.text.items)

-- the bytes state no table for this fault
abbrev pub IsImportFault : List (List ℕ) → ImportOptions → List ℕ → ImportFault → Type 0
IsImportFault maps options bytes fault = IsImport maps options bytes (Err fault)

-- why the bytes are refused: the first fault of their rows, otherwise that of the table which these state
abbrev pub IsImportRefusal : List (List ℕ) → ImportOptions → List ℕ → CommandRefusal → Type 0
IsImportRefusal maps options bytes refusal = (fault : ImportFault) × IsImportFault maps options bytes fault × (refusal ≡ import_refusal fault)

-- the rows in a file are imported as this text, and the status is 0
abbrev pub IsImported : (List ℕ → Option (List ℕ)) → List (List ℕ) → ImportOptions → List ℕ → ℕ → List ℕ → Type 0
IsImported file maps options name status text = (bytes : List ℕ) × (readable (file name) ≡ Some bytes) × IsImportText maps options bytes text × (status ≡ 0)

-- why there is none: the file, or what is in it
abbrev pub IsNoImport : (List ℕ → Option (List ℕ)) → List (List ℕ) → ImportOptions → List ℕ → CommandRefusal → Type 0
IsNoImport file maps options name refusal =
    IsFileRefusal file name refusal ⊎ ((bytes : List ℕ) × (readable (file name) ≡ Some bytes) × IsImportRefusal maps options bytes refusal)

-- the reply for a file, or its refusal
abbrev pub IsImportReply : (List ℕ → Option (List ℕ)) → List (List ℕ) → ImportOptions → List ℕ → Result Reply CommandRefusal → Type 0
IsImportReply file maps options name result = Replies (IsImported file maps options name) (IsNoImport file maps options name) result

-- ---- intervals that may be milliseconds

-- the interval of an output is below 1000 microseconds, and no period of the grid is within it at this bit rate
abbrev pub IsShortInterval : ℕ → OutputRow → Type 0
IsShortInterval rate row = (row.min_us < 1000) × (row.max_us < 1000) × HasNoGridPeriod row.min_us row.max_us rate

-- the intervals of a group are not all so
abbrev pub HasNoShortGroup : TableRecord → Type 0
HasNoShortGroup t =
    (g : ℕ) (group : GroupRow) (rows : List OutputRow) → slice_get t.groups g ≡ Some group → slice_get t.outputs g ≡ Some rows
    → ¬ (AllByRecursion (IsShortInterval group.rate) rows)

-- for no group does `lint` find that its intervals may be milliseconds
abbrev pub HasNoMillisGroup : TableRecord → Type 0
HasNoMillisGroup t = (g : ℕ) → g < length t.groups → ¬ (IsMillisGroup t g true)

-- the table that the rows in a file state has no such group, and no row is a note
abbrev pub ImportsSilently : (List ℕ → Option (List ℕ)) → List (List ℕ) → ImportOptions → List ℕ → Type 0
ImportsSilently file maps options name =
    (bytes : List ℕ) (imported : Imported) → readable (file name) ≡ Some bytes → IsImport maps options bytes (Ok imported)
    → (imported.notes ≡ 0) × HasNoShortGroup imported.equipment × HasNoMillisGroup imported.equipment
