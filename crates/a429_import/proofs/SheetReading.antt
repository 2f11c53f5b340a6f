-- What is known of the lines of a sheet, and what is imported from them.
use Rattle.std.proofs.Common.{◌≡◌, ◌∙◌, Bool, true, false, List, [], ◌∷◌, ◌++◌, None, Some, Result, ap, refl, subst, sym, ℕ}
use Rattle.csv.specs.Records.{fields_of}
use Rattle.a429_import.specs.declared.columns.Heading.{Heading}
use Rattle.a429_import.specs.declared.fault.ImportFault.{ImportFault}
use Rattle.a429_import.specs.declared.import.Imported.{Imported}
use Rattle.a429_import.specs.declared.import.ImportOptions.{ImportOptions}
use Rattle.a429_text.specs.declared.csv_line.CsvLine.{CsvLine}
use Rattle.a429_import.specs.declared.reading.LinesRead.{LinesRead}
use Rattle.a429_import.specs.declared.sheet_reading.BelowRead.{BelowRead}
use Rattle.a429_import.specs.ImportMaps.{IsNamedBy}
use Rattle.a429_import.specs.Imports.{IsFilledImport, IsImportBy, IsImportFrom, IsSheetImport, IsTableBy}
use Rattle.a429_import.specs.ImportReading.{HasNoRow, KnowsNothing, SayRows, StandsFor, heading_fault}
use Rattle.a429_import.specs.KeptFields.{KeepsTexts, kept_of, lines_kept}
use Rattle.a429_import.specs.KeyedLines.{IsKeyedLine}
use Rattle.a429_import.specs.IndexedRows.{IsIndexed}
use Rattle.a429_import.specs.declared.indexed_rows.IndexedRows.{IndexedRows}
use Rattle.a429_import.specs.SheetReading.{AreFilledIf, IsFilledIf, ReadsBelow, ReadsHeaded, ReadsKeyed, ReadsNothing}
use Rattle.a429_import.proofs.FilledLines.{more_filled, none_filled}
use Rattle.std.specs.Prelude.{IfOk, vec_len}
use Rattle.a429_import.specs.NumberRanges.{HaveRanges}
use Rattle.a429_import.proofs.ImportRanges.{stated_in_range}
use Rattle.a429_import.proofs.ImportReading.{heading_only, kept_read, notes_read, rows_read}
use Rattle.a429_import.proofs.Imports.{import_from, table_by_same}
use Rattle.a429_import.proofs.Knowing.{zip_push}

-- lines with keys of sources
keyed_import : (makes_names : Bool) (heading : CsvLine) (read : LinesRead) (lines : List CsvLine) (result : Result Imported ImportFault) → ReadsKeyed makes_names heading read lines
    → ((below : List CsvLine) → StandsFor heading read below → IsImportFrom makes_names (heading ∷ below) result) → IsImportBy makes_names (heading ∷ lines) result
keyed_import false heading read lines result known is = is lines known
keyed_import true heading read lines result (keyed, are, known) is = (heading ∷ keyed, (keyed, are, refl), is keyed known)

-- lines whose empty fields are filled
filled_import : (fills makes_names : Bool) (heading : CsvLine) (lines filled : List CsvLine) (last : List (List ℕ)) (result : Result Imported ImportFault) → AreFilledIf fills (fields_of heading.fields) lines last filled
    → IsImportBy makes_names (heading ∷ filled) result → IsFilledImport fills makes_names (heading ∷ lines) result
filled_import false makes_names heading lines filled last result are is = subst (λ (ls : List CsvLine). IsImportBy makes_names (heading ∷ ls) result) are is
filled_import true makes_names heading lines filled last result are is = (heading ∷ filled, (filled, are.0, refl), is)

pub sheet_import : (options : ImportOptions) (maps : List (List ℕ)) (heading : Heading) (read : BelowRead) (lines : List CsvLine) (result : Result Imported ImportFault) → ReadsHeaded options maps (Some heading) read lines
    → ((below : List CsvLine) → StandsFor heading.line read.lines below → IsImportFrom options.makes_names (heading.line ∷ below) result) → IsSheetImport maps options lines result
sheet_import options maps heading read lines result (first, below, are, named, known) is =
    let filled = filled_import options.fills options.makes_names heading.line below known.filled (fields_of read.above) result known.are (keyed_import options.makes_names heading.line read.lines known.filled result known.reads is) in
    subst (λ (ls : List CsvLine). IsSheetImport maps options ls result) (sym are) (true, heading.line ∷ below, (refl, (heading.line, named, refl)), filled)

-- the table of the rows that lines below a heading state
pub table_stated : (makes_names : Bool) (heading : CsvLine) (read : LinesRead) (below : List CsvLine) (result : Result Imported ImportFault) (notes : ℕ) → SayRows heading below read → notes ≡ vec_len read.notes.rows
    → IfOk result (λ (made : Imported). made.notes ≡ notes) → (HaveRanges read.known.rows.items → IsTableBy (lines_kept read.kept) makes_names read.known.rows.items result) → IsImportFrom makes_names (heading ∷ below) result
table_stated makes_names heading read below result notes known counted has table =
    let lines = heading ∷ below in
    let rows = read.known.rows.items in
    let are = rows_read heading read below known in
    import_from makes_names lines rows result notes are (counted ∙ notes_read heading read below known) has
    (table_by_same (lines_kept read.kept) (kept_of lines) (kept_read heading read below known) makes_names rows result (table (stated_in_range lines rows are)))

-- what the lines of a sheet are read as
lines_of : (makes_names : Bool) (heading : CsvLine) (read : LinesRead) (lines : List CsvLine) → ReadsKeyed makes_names heading read lines → (below : List CsvLine) × StandsFor heading read below
lines_of false heading read lines known = (lines, known)
lines_of true heading read lines (keyed, are, known) = (keyed, known)

pub sheet_lines : (options : ImportOptions) (maps : List (List ℕ)) (heading : Heading) (read : BelowRead) (lines : List CsvLine) → ReadsHeaded options maps (Some heading) read lines
    → (below : List CsvLine) × StandsFor heading.line read.lines below
sheet_lines options maps heading read lines (first, below, are, named, known) = lines_of options.makes_names heading.line read.lines known.filled known.reads

-- one more line below the heading
pub below_more : (options : ImportOptions) (maps : List (List ℕ)) (heading : Heading) (old new : BelowRead) (lines : List CsvLine) (line : CsvLine) → ReadsHeaded options maps (Some heading) old lines
    → ((below : List CsvLine) → ReadsBelow options heading.line old below → ReadsBelow options heading.line new (below ++ line ∷ [])) → ReadsHeaded options maps (Some heading) new (lines ++ line ∷ [])
below_more options maps heading old new lines line (first, below, are, named, known) more =
    (first, below ++ line ∷ [], ap (λ (ls : List CsvLine). ls ++ line ∷ []) are, named, more below known)

-- the heading
pub heading_read : (options : ImportOptions) (maps : List (List ℕ)) (heading : Heading) (old new : BelowRead) (lines : List CsvLine) (line : CsvLine) → ReadsHeaded options maps None old lines → IsNamedBy maps line heading.line
    → ReadsBelow options heading.line new [] → ReadsHeaded options maps (Some heading) new (lines ++ line ∷ [])
heading_read options maps heading old new lines line (none, nothing) named known = (line, [], ap (λ (ls : List CsvLine). ls ++ line ∷ []) none, named, known)

-- no line below the heading
none_keyed : (makes_names : Bool) (heading : CsvLine) (read : LinesRead) → StandsFor heading read [] → ReadsKeyed makes_names heading read []
none_keyed false heading read stands = stands
none_keyed true heading read stands = ([], tt, stands)

pub heading_taken : (options : ImportOptions) (heading named : CsvLine) (old new : BelowRead) → heading ≡ named → new.lines.fault ≡ heading_fault named → new.lines.known ≡ old.lines.known → new.lines.notes ≡ old.lines.notes
    → new.lines.kept ≡ old.lines.kept → new.above ≡ old.above → ReadsNothing old → ReadsBelow options heading new []
heading_taken options heading named old new same fault known notes kept above nothing =
    let none : KnowsNothing new.lines = record {
      knows = subst IsIndexed (sym known) nothing.0.knows;
      rows = ap (λ (k : IndexedRows). k.rows.items) known ∙ nothing.0.rows;
      notes = subst HasNoRow (sym notes) nothing.0.notes;
      kept = λ h. subst (λ k. KeepsTexts k h []) (sym kept) (nothing.0.kept h);
    } in
    record {
      filled = [];
      are = none_filled options.fills (fields_of heading.fields) (fields_of new.above) (ap fields_of above ∙ nothing.1);
      reads = none_keyed options.makes_names heading new.lines (heading_only new.lines heading new.lines.fault none (fault ∙ ap (λ (l : CsvLine). heading_fault l) (sym same)));
    }

-- one more line
pub keyed_more : (makes_names : Bool) (heading line keyed : CsvLine) (old new : LinesRead) (lines : List CsvLine) → makes_names ≡ true → IsKeyedLine heading line keyed
    → ((below : List CsvLine) → StandsFor heading old below → StandsFor heading new (below ++ keyed ∷ [])) → ReadsKeyed makes_names heading old lines → ReadsKeyed makes_names heading new (lines ++ line ∷ [])
keyed_more false heading line keyed old new lines names is more known = cc names
keyed_more true heading line keyed old new lines names is more (all, are, known) = (all ++ keyed ∷ [], zip_push (IsKeyedLine heading) lines all line keyed are is, more all known)

pub below_taken : (options : ImportOptions) (heading : CsvLine) (old new : BelowRead) (lines : List CsvLine) (line filled : CsvLine) → IsFilledIf options.fills (fields_of heading.fields) (fields_of old.above) line (fields_of new.above) filled
    → ((all : List CsvLine) → ReadsKeyed options.makes_names heading old.lines all → ReadsKeyed options.makes_names heading new.lines (all ++ filled ∷ [])) → ReadsBelow options heading old lines
    → ReadsBelow options heading new (lines ++ line ∷ [])
below_taken options heading old new lines line filled is more known = record {
  filled = known.filled ++ filled ∷ [];
  are = more_filled options.fills (fields_of heading.fields) (fields_of old.above) (fields_of new.above) lines known.filled line filled known.are is;
  reads = more known.filled known.reads;
}
