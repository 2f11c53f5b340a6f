-- What is imported from lines.
use Rattle.std.proofs.Common.{◌≡◌, ◌∙◌, ℕ, Bool, true, false, List, [], ◌∷◌, Option, None, Some, Result, Ok, Err, ◌++◌, ap, ap₂, codes, cond, map, refl, subst, sym}
use Rattle.std.specs.Prelude.{IfOk}
use Rattle.std.specs.Str.{IsUtf8}
use Rattle.toml.specs.Data.{Data, table}
use Rattle.toml.specs.Parse.{parse_document}
use Rattle.a429_equipment.specs.TableRecord.{TableRecord}
use Rattle.a429_table.specs.declared.fault.FaultKind.{FaultKind}
use Rattle.a429_table.specs.declared.fault.TablePlace.{TablePlace}
use Rattle.a429_table.specs.declared.fault.TableFault.{TableFault}
use Rattle.a429_table.specs.declared.fault.TableFault.TheVariants as fault
use Rattle.a429_table.specs.Faults.{faults, first}
use Rattle.a429_table.specs.Reading.{GivesUnlessMemory, document, judged, reading}
use Rattle.a429_table.specs.Stated.{stated}
use Rattle.a429_table.proofs.Documents.{document-text}
use Rattle.a429_import.specs.declared.fault.CsvFaultKind.TheVariants.{Column, Form}
use Rattle.a429_import.specs.declared.fault.ImportColumn.TheVariants.{Group}
use Rattle.a429_import.specs.declared.fault.ImportFault.{ImportFault}
use Rattle.a429_import.specs.declared.fault.ImportFault.TheVariants.{NoMemory, Csv, Table}
use Rattle.a429_import.specs.declared.firsts.Part.{Part}
use Rattle.a429_import.specs.declared.firsts.Part.TheVariants.{Receivers, Sources, Groups}
use Rattle.a429_import.specs.declared.import.Imported.{Imported}
use Rattle.a429_import.specs.declared.import.ImportOptions.{ImportOptions}
use Rattle.a429_text.specs.declared.csv_line.CsvLine.{CsvLine}
use Rattle.a429_import.specs.declared.rows.ImportRow.{ImportRow}
use Rattle.a429_import.specs.ImportFaults.{of_table}
use Rattle.a429_import.specs.ImportRows.{note_count, rows_stated}
use Rattle.a429_import.specs.ImportTables.{part_tree, record_stated, root_members}
use Rattle.a429_import.specs.KeptFields.{kept_comments, kept_of}
use Rattle.a429_import.specs.PrintedTables.{PrintsTables}
use Rattle.a429_import.specs.TableTexts.{IsTableText, before_at, column_comments, made_comment, piece_of, pieces, row_before}
use Rattle.a429_import.specs.Imports.{AreLines, IsFilledImport, IsImport, IsImportBy, IsImportFrom, IsImportIf, IsSheetImport, IsTableBy, IsTableOf, States, is_unfit, rows_by, text_fault_line}
use Rattle.a429_import.specs.NumberRanges.{HaveRanges}
use Rattle.a429_import.proofs.ImportRecords.{tree_states}

-- bytes whose document is a root table are read as that is judged
reading_is : (bytes : List ℕ) (root : Data) → document bytes ≡ Some root → reading bytes ≡ judged root (faults root)
unfolding reading
reading_is bytes root there = rw there refl

judged_record : (root : Data) (fs : List (FaultKind × TablePlace)) (t : TableRecord) → judged root fs ≡ Ok t → stated root ≡ t
judged_record root [] t h = cc
judged_record root (f ∷ fs) t h = cc

judged_first : (root : Data) (fs : List (FaultKind × TablePlace)) (found : FaultKind × TablePlace) → judged root fs ≡ Err found → first fs ≡ Some found
judged_first root [] found h = cc
judged_first root (f ∷ fs) found h = cc

-- ---- of rows

module _ (rows : List ImportRow) (ranges : HaveRanges rows) (bytes : List ℕ) (text : IsUtf8 bytes) (parsed : parse_document bytes ≡ Some (root_members rows)) where
  there : document bytes ≡ Some (table (root_members rows))
  there = document-text bytes (Some (root_members rows)) text parsed

  -- the record that was read is the one that the rows state
  pub record_read : (t : TableRecord) → reading bytes ≡ Ok t → reading bytes ≡ Ok (record_stated rows)
  record_read t read =
      let root = table (root_members rows) in
      let is : t ≡ record_stated rows = sym (judged_record root (faults root) t (sym (reading_is bytes root there) ∙ read)) ∙ tree_states rows ranges in
      read ∙ ap (λ r. Ok r) is

  first_read : (f : FaultKind × TablePlace) → reading bytes ≡ Err f → first (faults (table (root_members rows))) ≡ Some f
  first_read f read = let root = table (root_members rows) in judged_first root (faults root) f (sym (reading_is bytes root there) ∙ read)

  refused : (kept : List ℕ → List ℕ) (before : Option (List ImportRow)) (f : TableFault) → GivesUnlessMemory (λ (t : TableRecord). t) bytes (Err f) (reading bytes) → IsTableOf kept before rows (Err (of_table f))
  refused kept before fault.NoMemory h = tt
  refused kept before (fault.At kind place) h = first_read (kind, place) h

  -- a table that is refused
  pub table_refused : (kept : List ℕ → List ℕ) (before : Option (List ImportRow)) (f : TableFault) (e : ImportFault) → GivesUnlessMemory (λ (t : TableRecord). t) bytes (Err f) (reading bytes) → e ≡ of_table f → IsTableOf kept before rows (Err e)
  table_refused kept before f e h is = subst (λ (x : ImportFault). IsTableOf kept before rows (Err x)) (sym is) (refused kept before f h)

-- ---- with the same lines of sources

map_same : {X Y : Type 0} (f g : X → Y) → ((x : X) → f x ≡ g x) → (xs : List X) → map f xs ≡ map g xs
map_same f g same [] = refl
map_same f g same (x ∷ xs) = ap₂ (λ y ys. y ∷ ys) (same x) (map_same f g same xs)

module _ (kept other : List ℕ → List ℕ) (same : (source : List ℕ) → kept source ≡ other source) where
  columns_same : (part : Part) (before : Option ImportRow) (row : ImportRow) → column_comments kept part before row ≡ column_comments other part before row
  columns_same Receivers before row = refl
  columns_same Sources before row = ap (kept_comments row.texts.source) (same (row_before before row).texts.source)
  columns_same Groups before row = refl

  pieces_same : (before : Option (List ImportRow)) (part : Part) (rows : List ImportRow) → pieces kept before part rows ≡ pieces other before part rows
  pieces_same before part rows =
      map_same (piece_of kept before part rows) (piece_of other before part rows)
      (λ p. ap (λ (more : List ℕ). (10 ∷ (made_comment part (before_at before part p.0) p.1 ++ more), part_tree part rows p.1)) (columns_same part (before_at before part p.0) p.1)) _

  text_same : (before : Option (List ImportRow)) (rows : List ImportRow) (text : List ℕ) → IsTableText kept before rows text → IsTableText other before rows text
  text_same before rows text is = record {
    head = is.head;
    groups = is.groups;
    receivers = is.receivers;
    sources = is.sources;
    whole = is.whole;
    pairs = is.pairs;
    groups_are = subst (λ ps. PrintsTables (codes "group") ps is.groups) (pieces_same before Groups rows) is.groups_are;
    receivers_are = subst (λ ps. PrintsTables (codes "receiver") ps is.receivers) (pieces_same before Receivers rows) is.receivers_are;
    sources_are = subst (λ ps. PrintsTables (codes "source") ps is.sources) (pieces_same before Sources rows) is.sources_are;
  }

  table_same : (before : Option (List ImportRow)) (rows : List ImportRow) (result : Result Imported ImportFault) → IsTableOf kept before rows result → IsTableOf other before rows result
  table_same before rows (Ok made) h = (h.0, h.1, text_same before rows made.text.items h.2)
  table_same before rows (Err NoMemory) h = tt
  table_same before rows (Err (Csv line kind column)) h = absurd h
  table_same before rows (Err (Table fault.NoMemory)) h = absurd h
  table_same before rows (Err (Table (fault.At kind place))) h = h

  pub table_by_same : (makes_names : Bool) (rows : List ImportRow) (result : Result Imported ImportFault) → IsTableBy kept makes_names rows result → IsTableBy other makes_names rows result
  table_by_same makes_names rows result h = table_same (cond makes_names (Some rows) None) (rows_by makes_names rows) result h

-- ---- of lines

-- the table of the rows that lines state
table_import : (makes_names : Bool) (lines : List CsvLine) (rows : List ImportRow) (imported : Imported) → rows_stated lines ≡ Ok rows → imported.notes ≡ note_count lines
    → IsTableBy (kept_of lines) makes_names rows (Ok imported) → IsImportFrom makes_names lines (Ok imported)
table_import false lines rows imported are count h = (rows, are, h.0, count, h.1, h.2)
table_import true lines rows imported are count h = (rows, are, h, count)

-- the fault of that table
table_fault : (makes_names : Bool) (lines : List CsvLine) (rows : List ImportRow) (e : ImportFault) → rows_stated lines ≡ Ok rows → IsTableBy (kept_of lines) makes_names rows (Err e) → IsImportFrom makes_names lines (Err e)
table_fault false lines rows NoMemory are h = tt
table_fault false lines rows (Csv line kind column) are h = absurd h
table_fault false lines rows (Table fault.NoMemory) are h = absurd h
table_fault false lines rows (Table (fault.At kind place)) are h = (rows, are, h)
table_fault true lines rows NoMemory are h = tt
table_fault true lines rows (Csv line kind column) are h = absurd h
table_fault true lines rows (Table f) are h = (rows, are, h)

-- the table of these rows, or its fault
pub import_from : (makes_names : Bool) (lines : List CsvLine) (rows : List ImportRow) (result : Result Imported ImportFault) (notes : ℕ) → rows_stated lines ≡ Ok rows → notes ≡ note_count lines
    → IfOk result (λ (made : Imported). made.notes ≡ notes) → IsTableBy (kept_of lines) makes_names rows result → IsImportFrom makes_names lines result
import_from makes_names lines rows (Ok made) notes are count has h = table_import makes_names lines rows made are (has ∙ count) h
import_from makes_names lines rows (Err e) notes are count has h = table_fault makes_names lines rows e are h

-- the fault of lines
pub fault_import : (makes_names : Bool) (lines : List CsvLine) (e : ImportFault) → States {X = List ImportRow} (λ rows. rows) (Err e) (rows_stated lines) → IsImportFrom makes_names lines (Err e)
fault_import false lines NoMemory h = tt
fault_import false lines (Csv line kind column) h = h
fault_import false lines (Table f) h = absurd h
fault_import true lines NoMemory h = tt
fault_import true lines (Csv line kind column) h = h
fault_import true lines (Table f) h = absurd h

-- lines without a heading
none_from : (makes_names : Bool) → IsImportFrom makes_names [] (Err (Csv 1 Column (Some Group)))
unfolding rows_stated
none_from false = refl
none_from true = refl

pub none_imported : (maps : List (List ℕ)) (options : ImportOptions) (lines : List CsvLine) (e : ImportFault) → lines ≡ [] → e ≡ Csv 1 Column (Some Group) → IsSheetImport maps options lines (Err e)
none_imported maps options lines e none is =
    subst (λ (ls : List CsvLine). IsSheetImport maps options ls (Err e)) (sym none) (subst (λ (x : ImportFault). IsSheetImport maps options [] (Err x)) (sym is) (false, [], (refl, refl), by options.fills))
  where
    keyed : (makes_names : Bool) → IsImportBy makes_names [] (Err (Csv 1 Column (Some Group)))
    keyed false = none_from false
    keyed true = ([], refl, none_from true)

    by : (fills : Bool) → IsFilledImport fills options.makes_names [] (Err (Csv 1 Column (Some Group)))
    by false = keyed options.makes_names
    by true = ([], refl, keyed options.makes_names)

-- ---- of a text

module _ (maps : List (List ℕ)) (options : ImportOptions) (text : List ℕ) where
  of_rows : (lines : List CsvLine) (result : Result Imported ImportFault) → is_unfit maps text ≡ false → AreLines maps text lines → IsSheetImport maps options lines result → IsImportIf (is_unfit maps text) maps options text result
  of_rows lines result fit are (is_below, named, by, h) = subst (λ (b : Bool). IsImportIf b maps options text result) (sym fit) (named, (lines, is_below, are, by), h)

  -- the rest of what is imported, if no fault comes before those of the rows
  pub import_of : (lines : List CsvLine) (result : Result Imported ImportFault) → is_unfit maps text ≡ false → AreLines maps text lines → IsSheetImport maps options lines result → IsImport maps options text result
  import_of lines (Ok bytes) fit are h = of_rows lines (Ok bytes) fit are h
  import_of lines (Err NoMemory) fit are h = tt
  import_of lines (Err (Csv line kind column)) fit are h = of_rows lines (Err (Csv line kind column)) fit are h
  import_of lines (Err (Table f)) fit are h = of_rows lines (Err (Table f)) fit are h

  -- a text whose quotes are wrong, or with a row of data above its heading
  pub unfit_import : (line : ℕ) (fault : ImportFault) → text_fault_line maps text ≡ Some line → is_unfit maps text ≡ true → fault ≡ Csv line Form None → IsImport maps options text (Err fault)
  unfit_import line fault at unfit is =
      let first : Result Imported ImportFault = Err (Csv line Form None) in
      subst (λ (f : ImportFault). IsImport maps options text (Err f)) (sym is) (subst (λ (b : Bool). IsImportIf b maps options text first) (sym unfit) (line, at, refl))
