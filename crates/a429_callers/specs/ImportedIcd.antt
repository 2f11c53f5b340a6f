-- What is imported from the interface control document of a plan: a table of the same outputs, with the same plan (profile: import).
use Rattle.std.specs.Prelude.{◌≡◌, ◌<◌, ℕ, true, false, List, [], None, Some, Result, Ok, Err, length, slice_get}
use Rattle.std.specs.List.{AllByRecursion, AllZip}
use Rattle.a429_equipment.specs.declared.rows.OutputRow.{OutputRow}
use Rattle.a429_equipment.specs.declared.rows.SourceRow.{SourceRow}
use Rattle.a429_equipment.specs.TableRecord.{TableRecord}
use Rattle.a429_slots.specs.Planned.{HasOwnLayout, IsPlanOf}
use Rattle.a429_slots.specs.Proposed.{Proposed}
use Rattle.a429_slots.specs.Tables.{PlanTable}
use Rattle.a429_table.specs.Reading.{reading}
use Rattle.a429_cert.specs.PlanText.{plan_text_of}
use Rattle.a429_import.specs.declared.fault.ImportFault.{ImportFault}
use Rattle.a429_import.specs.declared.fault.ImportFault.TheVariants.{NoMemory}
use Rattle.a429_import.specs.declared.import.Imported.{Imported}
use Rattle.a429_import.specs.declared.import.ImportOptions.{ImportOptions}
use Rattle.a429_text.specs.Sheets.{sheet_text}
use Rattle.a429_text.specs.declared.sheets.SheetForm.TheVariants.{Csv}
use Rattle.a429_documents.specs.Document.{icd_columns, icd_rows}
use Rattle.a429_import.specs.Imports.{IsImport}
use Rattle.a429_documents.specs.Lint.{has_source}
use Rattle.a429_documents.specs.Losses.{IsSent}

-- ---- of which tables

-- The station was read from these bytes, a table of version 2 without filters, and the plan is its plan of the own layout. A table of version 1 is imported as
-- one of version 2, so that its plan text is another, and the document has no column of filters.
pub record IsWholeInIcd (bytes : List ℕ) (a : Proposed) : Type 0 where
  pub read : reading bytes ≡ Ok a.station
  pub version : a.station.version ≡ 2
  pub no_filters : AllByRecursion (λ receiver. receiver.filters ≡ None) a.station.receivers
  pub plan : IsPlanOf a.station a.plan
  pub own : HasOwnLayout a.station a.plan

-- ---- the same outputs

-- the sources have the same name, label and SDI, and the same receiver, under any number
pub record IsSameSource (t e : TableRecord) (s u : SourceRow) : Type 0 where
  pub name : s.name ≡ u.name
  pub label : s.label ≡ u.label
  pub sdi : s.sdi ≡ u.sdi
  pub receiver : slice_get t.receivers s.receiver ≡ slice_get e.receivers u.receiver

-- the outputs have the same interval and hold, and the same source, under any number
pub record IsSameOutput (t e : TableRecord) (o p : OutputRow) : Type 0 where
  pub least : o.min_us ≡ p.min_us
  pub most : o.max_us ≡ p.max_us
  pub hold : o.hold ≡ p.hold
  pub source : SourceRow
  pub other_source : SourceRow
  pub there : slice_get t.sources o.source ≡ Some source
  pub other_there : slice_get e.sources p.source ≡ Some other_source
  pub same : IsSameSource t e source other_source

-- t is the part of e that its groups send: equal groups and the same outputs, in order; each source is sent, and each receiver has a source
pub record IsSentPart (t e : TableRecord) : Type 0 where
  pub version : t.version ≡ e.version
  pub groups : t.groups ≡ e.groups
  pub outputs : AllZip (AllZip (IsSameOutput t e)) t.outputs e.outputs
  pub sent : (source : ℕ) → source < length t.sources → IsSent t source
  pub used : (receiver : ℕ) → receiver < length t.receivers → has_source t.sources receiver ≡ true

-- ---- the same plan

-- the table has a plan of the own layout, and its text is that of the proposal's plan
pub record HasPlanTextOf (t : TableRecord) (a : Proposed) : Type 0 where
  pub plan : PlanTable
  pub is : IsPlanOf t plan
  pub own : HasOwnLayout t plan
  pub text : (b : PlanTable) → IsPlanOf t b → HasOwnLayout t b → plan_text_of t b ≡ plan_text_of a.station a.plan

-- the text is read as the part of the station that is sent, which has the same plan text
pub record IsReadAsPlanned (text : List ℕ) (a : Proposed) : Type 0 where
  pub table : TableRecord
  pub read : reading text ≡ Ok table
  pub part : IsSentPart table a.station
  pub plan : HasPlanTextOf table a

-- such a text is imported, unless memory runs out
abbrev pub ImportsPlan : Proposed → Result Imported ImportFault → Type 0
ImportsPlan a (Ok imported) = IsReadAsPlanned imported.text.items a
ImportsPlan a (Err NoMemory) = Unit {0}
ImportsPlan a (Err _) = ⊥

-- an interface control document as comma-separated values
abbrev pub icd_csv : Proposed → List ℕ
icd_csv a = sheet_text Csv icd_columns (icd_rows false a.station a.plan)

-- no field is filled, and no names are made
abbrev pub plainly : ImportOptions
plainly = record { fills = false; makes_names = false }

-- importing it gives the same plan
abbrev pub ImportedIcdIsSamePlan : Type 0
ImportedIcdIsSamePlan =
    (bytes : List ℕ) (a : Proposed) (result : Result Imported ImportFault) → IsWholeInIcd bytes a
    → IsImport [] plainly (icd_csv a) result → ImportsPlan a result
