-- What is known of lines that were read: what the rows among them say, or their first fault (profile: import).
use Rattle.std.specs.Borrow.{Bor}
use Rattle.std.specs.Prelude.{◌≡◌, ◌+◌, ℕ, true, false, List, [], ◌∷◌, Option, None, Some, drop, length, map, option_map, Result, Ok, Err, vec_len}
use Rattle.std.specs.List.{AllByRecursion, list_any}
use Rattle.csv.specs.Reading.{Reached, Ready, source_of, strip_bom}
use Rattle.csv.specs.Records.{fields_of}
use Rattle.csv.specs.declared.parser.State.TheVariants as st
use Rattle.csv.specs.declared.reader.Reader.{Reader}
use Rattle.csv.specs.declared.reader.Trim.TheVariants as trim
use Rattle.a429_import.specs.declared.fault.CsvFaultKind.TheVariants.{Column}
use Rattle.a429_import.specs.declared.fault.ImportColumn.{ImportColumn}
use Rattle.a429_import.specs.declared.fault.ImportFault.{ImportFault}
use Rattle.a429_import.specs.declared.fault.ImportFault.TheVariants.{Csv}
use Rattle.a429_import.specs.declared.indexed_rows.IndexedRows.{IndexedRows}
use Rattle.a429_text.specs.declared.csv_line.CsvLine.{CsvLine}
use Rattle.a429_import.specs.declared.lines.LineCount.{LineCount}
use Rattle.a429_import.specs.declared.notes.Notes.{Notes}
use Rattle.a429_import.specs.declared.reading.LinesRead.{LinesRead}
use Rattle.a429_import.specs.declared.rows.ImportRow.{ImportRow}
use Rattle.a429_import.specs.ImportClashes.{Agree}
use Rattle.a429_import.specs.ImportRows.{CsvFault, has_label, rows_after, rows_stated, without_notes, wrong_column}
use Rattle.a429_import.specs.Imports.{States, separated}
use Rattle.a429_import.specs.ImportSteps.{state_of}
use Rattle.a429_import.specs.ImportWords.{trimmed}
use Rattle.a429_import.specs.KeptFields.{KeepsTexts}
use Rattle.a429_import.specs.IndexedRows.{IsIndexed}
use Rattle.a429_import.specs.LineCounts.{HasCounted, IsBefore, is_between}
use Rattle.a429_import.specs.RowLines.{row_lines}

-- the library `csv` has read these lines of an end of a file, whose fields this separates, and they are counted; the lines have no blanks round fields
pub record HasRead (separator : ℕ) (file text : List ℕ) (reader : Reader (Bor (List ℕ))) (count : LineCount) (lines : List CsvLine) : Type 0 where
  pub plain : reader.trim ≡ trim.None
  pub ready : Ready reader
  pub config : reader.config ≡ separated separator
  pub rest : List ℕ
  pub source : source_of (λ s. Some s.now) reader ≡ Some rest
  pub rows : List (List (List ℕ))
  pub reached : Reached (separated separator) st.StartRecord (strip_bom text) rows reader.state rest
  pub fields : map (λ l. fields_of l.fields) lines ≡ map (map trimmed) rows
  pub separators : AllByRecursion (λ l. l.separator ≡ separator) lines
  pub counted : HasCounted file count
  pub state : state_of count.part ≡ reader.state
  pub between : is_between reader.state ≡ true
  pub at : drop count.at file ≡ rest
  pub numbers : map (λ l. l.number) lines ≡ row_lines (separated separator) file (length lines) text

-- it has read none of them
abbrev pub IsUnread : ℕ → List ℕ → Reader (Bor (List ℕ)) → Type 0
IsUnread separator text reader = (file : List ℕ) (count : LineCount) → IsBefore file text count → HasRead separator file text reader count []

-- a row was read, and this is so of it
abbrev pub IsReadRow : {A E : Type 0} → (A → Type 0) → Result A E → Type 0
IsReadRow P (Ok row) = P row
IsReadRow P (Err e) = ⊥

-- the fault of a heading that lacks a column or has it twice
abbrev pub heading_fault : CsvLine → Option ImportFault
heading_fault heading = option_map {T = ImportColumn} {U = ImportFault} (λ column. Csv heading.number Column (Some column)) (wrong_column (fields_of heading.fields))

-- one more row is read, or refused
abbrev pub IsTaken : Result (Unit {0}) ImportFault → IndexedRows → Result (List ImportRow) CsvFault → Type 0
IsTaken (Ok u) known stated = (stated ≡ Ok known.rows.items) × Agree known.rows.items × IsIndexed known
IsTaken (Err fault) known stated = States {X = List ImportRow} (λ rows. rows) (Err fault) stated

-- no row was read, so none may be a note
pub record HasNoRow (notes : Notes) : Type 0 where
  pub labelled : notes.is_labelled ≡ false
  pub held : notes.held ≡ None
  pub count : vec_len notes.rows ≡ 0

-- the fault of this line, which has one
abbrev pub HoldsFault : Option ImportFault → Result ImportRow CsvFault → Type 0
HoldsFault None stated = ⊥
HoldsFault (Some fault) stated = States {X = ImportRow} (λ row. row) (Err fault) stated

-- the fault that is held back stays; otherwise that of this line is held back
abbrev pub HoldsFirst : Option ImportFault → Option ImportFault → Result ImportRow CsvFault → Type 0
HoldsFirst None new stated = HoldsFault new stated
HoldsFirst (Some fault) new stated = new ≡ Some fault

-- the fault that is held back is that of all lines, notes among them; these rows are those of all lines if there is none
abbrev pub IsHeld : Option ImportFault → List ImportRow → Result (List ImportRow) CsvFault → Type 0
IsHeld None rows stated = stated ≡ Ok rows
IsHeld (Some fault) rows stated = States {X = List ImportRow} (λ rows. rows) (Err fault) stated

-- the rows that lines below a heading say, if those below the last one with a label are notes
pub record AreBelow (heading : List (List ℕ)) (below : List CsvLine) (known : IndexedRows) (notes : Notes) : Type 0 where
  pub stated : rows_after heading [] (without_notes heading below) ≡ Ok known.rows.items
  pub held : IsHeld notes.held known.rows.items (rows_after heading [] below)
  pub labelled : notes.is_labelled ≡ list_any (has_label heading) below
  pub count : length (without_notes heading below) + vec_len notes.rows ≡ length below
  pub agree : Agree known.rows.items
  pub knows : IsIndexed known

-- lines below a heading are read, or refused
abbrev pub AreTaken : Result (Unit {0}) ImportFault → List (List ℕ) → List CsvLine → IndexedRows → Notes → Type 0
AreTaken (Ok u) heading below known notes = AreBelow heading below known notes
AreTaken (Err fault) heading below known notes = States {X = List ImportRow} (λ rows. rows) (Err fault) (rows_after heading [] (without_notes heading below))

-- the same, below a heading without a fault
pub record SayRows (heading : CsvLine) (below : List CsvLine) (read : LinesRead) : Type 0 where
  pub named : wrong_column (fields_of heading.fields) ≡ None
  pub are : AreBelow (fields_of heading.fields) below read.known read.notes
  pub kept : KeepsTexts read.kept (fields_of heading.fields) below

-- no line was read
pub record KnowsNothing (read : LinesRead) : Type 0 where
  pub knows : IsIndexed read.known
  pub rows : read.known.rows.items ≡ []
  pub notes : HasNoRow read.notes
  pub kept : (heading : List (List ℕ)) → KeepsTexts read.kept heading []

-- a heading and the lines below it have this fault, or what is known is right for them
abbrev pub AreRead : Option ImportFault → LinesRead → CsvLine → List CsvLine → Type 0
AreRead None read heading below = SayRows heading below read
AreRead (Some fault) read heading below = States {X = List ImportRow} (λ rows. rows) (Err fault) (rows_stated (heading ∷ below))

abbrev pub StandsFor : CsvLine → LinesRead → List CsvLine → Type 0
StandsFor heading read below = AreRead read.fault read heading below
