-- What is known of lines, after one more line.
use Rattle.std.proofs.Common.{◌≡◌, ◌∙◌, ◌+◌, ℕ, List, [], ◌∷◌, ◌++◌, Option, None, Some, option_map, Result, Ok, Err, Bool, true, false, ap, append-nil, arith, cond, refl, subst, sym}
use Rattle.std.specs.Prelude.{OnOk, filter, is_some, unwrap_or, vec_len}
use Rattle.std.specs.Result.{result_err}
use Rattle.csv.specs.Records.{fields_of}
use Rattle.a429_import.specs.declared.fault.CsvFaultKind.TheVariants.{Column}
use Rattle.a429_import.specs.declared.fault.ImportColumn.{ImportColumn}
use Rattle.a429_import.specs.declared.fault.ImportFault.{ImportFault}
use Rattle.a429_import.specs.declared.fault.ImportFault.TheVariants.{NoMemory, Csv, Table}
use Rattle.a429_text.specs.declared.csv_line.CsvLine.{CsvLine}
use Rattle.a429_import.specs.declared.reading.LinesRead.{LinesRead}
use Rattle.a429_import.specs.declared.rows.ImportRow.{ImportRow}
use Rattle.a429_import.specs.ImportClashes.{Agree}
use Rattle.a429_import.specs.ImportReading.{AreBelow, AreRead, AreTaken, IsHeld, IsReadRow, KnowsNothing, SayRows, heading_fault}
use Rattle.a429_import.specs.ImportRows.{CsvFault, limited, note_count, rows_after, rows_stated, says_nothing, unless_wrong, with_row, without_notes, wrong_column}
use Rattle.a429_import.specs.ImportLimits.{too_many}
use Rattle.a429_import.specs.Imports.{States, has_text}
use Rattle.a429_import.specs.KeptFields.{KeepsTexts, kept_of, lines_kept}
use Rattle.a429_import.proofs.ImportNotes.{still_refused}

-- a result that succeeds
pub row_is : {A E : Type 0} (P : A → Type 0) (r : Result A E) → IsReadRow P r → (a : A) × (r ≡ Ok a) × P a
row_is P (Ok a) h = (a, refl, h)
row_is P (Err e) h = absurd h

-- ---- a fault stays

refused_stays : (heading : CsvLine) (below : List CsvLine) (line : CsvLine) (wrong : Option ImportColumn) (f : CsvFault)
    → unless_wrong heading below wrong ≡ Err f → unless_wrong heading (below ++ line ∷ []) wrong ≡ Err f
refused_stays heading below line None f h =
    still_refused (fields_of heading.fields) below line f h
refused_stays heading below line (Some column) f h = h

abbrev IsFault : ImportFault → CsvLine → List CsvLine → Type 0
IsFault e heading below = States {X = List ImportRow} (λ rows. rows) (Err e) (rows_stated (heading ∷ below))

fault_stays : (e : ImportFault) (heading : CsvLine) (below : List CsvLine) (line : CsvLine) → IsFault e heading below → IsFault e heading (below ++ line ∷ [])
unfolding rows_stated
fault_stays NoMemory heading below line h = tt
fault_stays (Csv number kind column) heading below line h = refused_stays heading below line (wrong_column (fields_of heading.fields)) (number, kind, column) h
fault_stays (Table f) heading below line h = absurd h

-- ---- the heading

none_below : (heading : List (List ℕ)) (read : LinesRead) → KnowsNothing read → AreBelow heading [] read.known read.notes
none_below heading read nothing =
    let stated : rows_after heading [] [] ≡ Ok read.known.rows.items = ap (λ rows. Ok rows) (sym nothing.rows) in
    let count = nothing.notes.count in
    let sum : 0 + vec_len read.notes.rows ≡ 0 = omega (arith, count) in
    record {
      stated = stated;
      held = subst (λ o. IsHeld o read.known.rows.items (rows_after heading [] [])) (sym nothing.notes.held) stated;
      labelled = nothing.notes.labelled;
      count = sum;
      agree = subst Agree (sym nothing.rows) tt;
      knows = nothing.knows;
    }

-- what is known below a heading, which may have a fault
pub heading_only : (read : LinesRead) (heading : CsvLine) (fault : Option ImportFault) → KnowsNothing read → fault ≡ heading_fault heading → AreRead fault read heading []
unfolding rows_stated
heading_only read heading fault nothing is = subst (λ o. AreRead o read heading []) (sym is) (by (wrong_column (fields_of heading.fields)) refl)
  where
    by : (wrong : Option ImportColumn) → wrong_column (fields_of heading.fields) ≡ wrong → AreRead (option_map (λ column. Csv heading.number Column (Some column)) wrong) read heading []
    by None is = record { named = is; are = none_below (fields_of heading.fields) read nothing; kept = nothing.kept (fields_of heading.fields) }
    by (Some column) is = ap (unless_wrong heading []) is

-- ---- a row

below_refused : (heading : CsvLine) (below : List CsvLine) (e : ImportFault) → wrong_column (fields_of heading.fields) ≡ None
    → States {X = List ImportRow} (λ rows. rows) (Err e) (rows_after (fields_of heading.fields) [] (without_notes (fields_of heading.fields) below)) → IsFault e heading below
unfolding rows_stated
below_refused heading below NoMemory named h = tt
below_refused heading below (Csv number kind column) named h = ap (unless_wrong heading below) named ∙ h
below_refused heading below (Table f) named h = absurd h

-- one more line, which may have a fault
pub line_read : (heading line : CsvLine) (old new : LinesRead) (below : List CsvLine) (result : Result (Unit {0}) ImportFault) → SayRows heading below old
    → AreTaken result (fields_of heading.fields) (below ++ line ∷ []) new.known new.notes → OnOk result (KeepsTexts new.kept (fields_of heading.fields) (below ++ line ∷ []))
    → AreRead (result_err result) new heading (below ++ line ∷ [])
line_read heading line old new below (Ok u) known are kept = record { named = known.named; are = are; kept = kept }
line_read heading line old new below (Err e) known is kept = below_refused heading (below ++ line ∷ []) e known.named is

-- lines after one with a fault
pub line_skipped : (heading line : CsvLine) (fault : Option ImportFault) (old new : LinesRead) (below : List CsvLine) → is_some fault ≡ true → AreRead fault old heading below → AreRead fault new heading (below ++ line ∷ [])
line_skipped heading line None old new below some known = cc
line_skipped heading line (Some e) old new below some known = fault_stays e heading below line known

pub unfaulted : (heading : CsvLine) (fault : Option ImportFault) (read : LinesRead) (below : List CsvLine) → is_some fault ≡ false → AreRead fault read heading below → SayRows heading below read
unfaulted heading None read below none known = known
unfaulted heading (Some e) read below none known = cc none

-- ---- the end

pub rows_read : (heading : CsvLine) (read : LinesRead) (below : List CsvLine) → SayRows heading below read → rows_stated (heading ∷ below) ≡ Ok read.known.rows.items
unfolding rows_stated
rows_read heading read below known = ap (unless_wrong heading below) known.named ∙ known.are.stated

pub notes_read : (heading : CsvLine) (read : LinesRead) (below : List CsvLine) → SayRows heading below read → vec_len read.notes.rows ≡ note_count (heading ∷ below)
notes_read heading read below known = let count = known.are.count in omega (arith, count)

-- the lines of sources are those of the rows
pub kept_read : (heading : CsvLine) (read : LinesRead) (below : List CsvLine) → SayRows heading below read → (source : List ℕ) → lines_kept read.kept source ≡ kept_of (heading ∷ below) source
kept_read heading read below known source = ap (λ o. unwrap_or o []) (known.kept source)

-- ---- rows of empty fields

abbrev is_filled : CsvLine → Bool
is_filled l = has_text (fields_of l.fields)

pub one_filled : (line : CsvLine) → has_text (fields_of line.fields) ≡ true → filter is_filled (line ∷ []) ≡ line ∷ []
one_filled line is = rw is refl

pub not_filled : (lines : List CsvLine) (line : CsvLine) → has_text (fields_of line.fields) ≡ false → lines ++ filter is_filled (line ∷ []) ≡ lines
not_filled lines line is = rw is (append-nil lines)

-- ---- one more row

-- a row that says something new is taken, unless there is one too many of something
pub row_added : (line : ℕ) (rows all : List ImportRow) (row : ImportRow) (column : Option ImportColumn) → says_nothing rows row ≡ false → all ≡ rows ++ row ∷ [] → column ≡ too_many all row
    → with_row line rows row ≡ limited line all column
row_added line rows all row column new are is =
    ap (λ (b : Bool). cond b (Ok rows) (limited line (rows ++ row ∷ []) (too_many (rows ++ row ∷ []) row))) new
    ∙ ap (λ (rs : List ImportRow). limited line rs (too_many rs row)) (sym are) ∙ ap (limited line all) (sym is)
