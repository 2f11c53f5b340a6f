-- What is imported_table from the text of an interface control document has the same plan.
use Rattle.std.proofs.Common.{◌≡◌, ◌∙◌, ℕ, Bool, false, List, [], ◌∷◌, Option, None, Some, Result, Ok, Err, ap, ap₂, map, refl, subst, sym}
use Rattle.std.specs.Prelude.{◌||◌}
use Rattle.std.proofs.lemmas.Option.{none-some}
use Rattle.csv.specs.Records.{fields_of}
use Rattle.toml.specs.Data.{table}
use Rattle.a429_equipment.specs.Sound.{IsSound}
use Rattle.a429_equipment.specs.TableRecord.{TableRecord}
use Rattle.a429_documents.specs.Document.{icd_rows}
use Rattle.a429_slots.specs.OnePlan.{PlansAreUnique}
use Rattle.a429_slots.specs.Proposed.{Proposed}
use Rattle.a429_slots.specs.Tables.{PlanTable}
use Rattle.a429_table.specs.declared.fault.TableFault.TheVariants as fault
use Rattle.a429_table.specs.Faults.{faults, first}
use Rattle.a429_cert.specs.PlanText.{plan_text_of}
use Rattle.a429_import.specs.declared.fault.CsvFaultKind.TheVariants.{Column}
use Rattle.a429_import.specs.declared.fault.ImportColumn.{ImportColumn}
use Rattle.a429_import.specs.declared.fault.ImportFault.{ImportFault}
use Rattle.a429_import.specs.declared.fault.ImportFault.TheVariants.{Csv, NoMemory, Table}
use Rattle.a429_import.specs.declared.import.Imported.{Imported}
use Rattle.a429_text.specs.declared.csv_line.CsvLine.{CsvLine}
use Rattle.a429_import.specs.declared.rows.ImportRow.{ImportRow}
use Rattle.a429_callers.specs.ImportedIcd.{HasPlanTextOf, ImportedIcdIsSamePlan, ImportsPlan, IsWholeInIcd, icd_csv, plainly}
use Rattle.a429_import.specs.Imports.{AreNamedLines, IsImport, IsImportIf, IsImportOf, has_row_above, is_misquoted_text}
use Rattle.a429_import.specs.ImportMaps.{AreNamedBy, names_by}
use Rattle.a429_import.specs.ImportRows.{CsvFault, rows_after, rows_stated, unless_wrong, without_notes, wrong_column}
use Rattle.a429_import.specs.ImportTables.{record_stated, root_members}
use Rattle.a429_callers.proofs.Icd.Faults.{has_few, none_at_all, outputs_few}
use Rattle.a429_callers.proofs.Icd.Groups.{new_number}
use Rattle.a429_callers.proofs.Icd.Records.{is_renumbered, sent_part}
use Rattle.a429_callers.proofs.Icd.Fields.{texts}
use Rattle.a429_callers.proofs.Icd.Texts.{heading_is_first, quotes_are_right}
use Rattle.a429_callers.proofs.Icd.Rows.{read_table, rows_stated_are}
use Rattle.a429_import.proofs.ImportRanges.{same_ok}
use Rattle.a429_callers.proofs.Icd.OwnWords.{IsReadTable, read_table_is}
use Rattle.a429_callers.proofs.Icd.RenumberedPlans.{IsRenumbered, has_layout, is_plan, renumbered_plan, one_text}

-- ---- a heading without texts HEADING=COLUMN

own_names : (names : List (List ℕ)) → names_by [] names ≡ names
own_names [] = refl
own_names (name ∷ names) = ap (λ (rest : List (List ℕ)). name ∷ rest) (own_names names)

abbrev by_names : ℕ → List (List ℕ) → List CsvLine → Option ImportColumn → Result (List ImportRow) CsvFault
by_names number names lines None = rows_after names [] (without_notes names lines)
by_names number names lines (Some column) = Err (number, Column, Some column)

unless_wrong_is : (heading : CsvLine) (lines : List CsvLine) (wrong : Option ImportColumn) → unless_wrong heading lines wrong ≡ by_names heading.number (fields_of heading.fields) lines wrong
unless_wrong_is heading lines None = refl
unless_wrong_is heading lines (Some column) = refl

rows_below : (heading : CsvLine) (lines : List CsvLine) → rows_stated (heading ∷ lines) ≡ by_names heading.number (fields_of heading.fields) lines (wrong_column (fields_of heading.fields))
unfolding rows_stated
rows_below heading lines = unless_wrong_is heading lines (wrong_column (fields_of heading.fields))

unnamed : (is_below : Bool) (read lines : List CsvLine) → AreNamedBy [] is_below read lines → rows_stated lines ≡ rows_stated read
unnamed is_below [] lines are = ap rows_stated are.1
unnamed is_below (heading ∷ below) lines are =
    let named : CsvLine = are.1.0 in
    let by = are.1.1 in
    let fields : fields_of named.fields ≡ fields_of heading.fields = by.fields ∙ own_names (fields_of heading.fields) in
    ap rows_stated are.1.2 ∙ rows_below named below ∙ ap₂ (λ (number : ℕ) (names : List (List ℕ)). by_names number names below (wrong_column names)) by.number fields ∙ sym (rows_below heading below)

-- ---- the document

module _ (bytes : List ℕ) (a : Proposed) (A : IsWholeInIcd bytes a) (one_plan : PlansAreUnique) where
  abbrev rows : List ImportRow
  rows = read_table a.station

  station_read : IsReadTable a.station
  station_read = read_table_is bytes a.station A.read

  sound : IsSound a.station
  sound = station_read.sound

  has_plan : HasPlanTextOf (record_stated rows) a
  has_plan =
      let t : TableRecord = record_stated rows in
      let f : ℕ → ℕ = new_number a.station in
      let R : IsRenumbered t a.station f = is_renumbered a.station sound A.no_filters A.version in
      let plan : PlanTable = renumbered_plan t a.station f R a.plan A.plan in
      record {
        plan = plan;
        is = is_plan t a.station f R a.plan A.plan;
        own = has_layout t a.station f R a.plan A.plan A.own;
        text = λ b planned own. ap (plan_text_of t) (one_plan t b plan planned own (is_plan t a.station f R a.plan A.plan) (has_layout t a.station f R a.plan A.plan A.own)) ∙ one_text t a.station f R a.plan A.plan;
      }

  no_fault : faults (table (root_members rows)) ≡ []
  no_fault = none_at_all a.station sound A.no_filters station_read.words

  lines_state : (lines : List CsvLine) → AreNamedLines [] (icd_csv a) lines → rows_stated lines ≡ Ok rows
  lines_state lines are = unnamed are.1 are.0 lines are.3 ∙ rows_stated_are a.station sound (has_few a.station sound A.no_filters station_read.words) (outputs_few a.station sound A.no_filters station_read.words) a.plan are.0 A.plan are.2

  of_lines : (lines : List CsvLine) → AreNamedLines [] (icd_csv a) lines → (result : Result Imported ImportFault) → IsImportOf lines result → ImportsPlan a result
  of_lines lines are (Ok imported) imports =
      let same : imports.0 ≡ rows = same_ok imports.0 rows (sym imports.1 ∙ lines_state lines are) in
      record {
        table = record_stated rows;
        read = imports.2 ∙ ap (λ (rows : List ImportRow). Ok (record_stated rows)) same;
        part = sent_part a.station sound A.no_filters A.version;
        plan = has_plan;
      }
  of_lines lines are (Err NoMemory) imports = tt
  of_lines lines are (Err (Csv line kind column)) imports = cc (sym imports ∙ lines_state lines are)
  of_lines lines are (Err (Table fault.NoMemory)) imports = absurd imports
  of_lines lines are (Err (Table (fault.At kind place))) imports =
      let same : imports.0 ≡ rows = same_ok imports.0 rows (sym imports.1 ∙ lines_state lines are) in
      let none : first (faults (table (root_members imports.0))) ≡ None = ap (λ (rows : List ImportRow). first (faults (table (root_members rows)))) same ∙ ap first no_fault in
      absurd (none-some (kind, place) (sym none ∙ imports.2))

  fit : (is_misquoted_text [] (icd_csv a) || has_row_above [] (icd_csv a)) ≡ false
  fit =
      let texts_of : List (List (List ℕ)) = map texts (icd_rows false a.station a.plan) in
      ap₂ (λ (x y : Bool). x || y) (quotes_are_right texts_of) (heading_is_first texts_of)

  of_rows : (result : Result Imported ImportFault) → IsImportIf (is_misquoted_text [] (icd_csv a) || has_row_above [] (icd_csv a)) [] plainly (icd_csv a) result → ImportsPlan a result
  of_rows result imports =
      let of = subst (λ (b : Bool). IsImportIf b [] plainly (icd_csv a) result) fit imports in
      of_lines of.0 of.1 result of.2

  of_text : (result : Result Imported ImportFault) → IsImport [] plainly (icd_csv a) result → ImportsPlan a result
  of_text (Ok imported) imports = of_rows (Ok imported) imports
  of_text (Err NoMemory) imports = tt
  of_text (Err (Csv line kind column)) imports = of_rows (Err (Csv line kind column)) imports
  of_text (Err (Table f)) imports = of_rows (Err (Table f)) imports

pub same_plan : PlansAreUnique → ImportedIcdIsSamePlan
same_plan one_plan bytes a result A imports = of_text bytes a A one_plan result imports
