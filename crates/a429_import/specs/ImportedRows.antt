-- The record of the table has what an imported row says (profile: import).
use Rattle.std.specs.Prelude.{◌≡◌, ℕ, true, List, Some, Ok, slice_get}
use Rattle.std.specs.List.{AllByRecursion}
use Rattle.a429_equipment.specs.declared.rows.OutputRow.{OutputRow}
use Rattle.a429_equipment.specs.declared.rows.SourceRow.{SourceRow}
use Rattle.a429_equipment.specs.TableRecord.{TableRecord}
use Rattle.a429_text.specs.declared.csv_line.CsvLine.{CsvLine}
use Rattle.a429_import.specs.declared.rows.ImportRow.{ImportRow}
use Rattle.a429_import.specs.ImportRows.{rows_stated}
use Rattle.a429_import.specs.ImportTables.{group_stated, has_group, receiver_stated, record_stated}

-- the source of a row, with the receiver of the row
pub record IsSourceOfRow (t : TableRecord) (row : ImportRow) (s : SourceRow) : Type 0 where
  pub name : s.name ≡ row.texts.source
  pub label : s.label ≡ row.numbers.label
  pub sdi : s.sdi ≡ row.numbers.sdi
  pub receiver : slice_get t.receivers s.receiver ≡ Some (receiver_stated row)

-- this number is that of the source of a row
abbrev pub HasSourceOfRow : TableRecord → ImportRow → ℕ → Type 0
HasSourceOfRow t row number = (s : SourceRow) × (slice_get t.sources number ≡ Some s) × IsSourceOfRow t row s

-- the output of a row, with the source of the row
pub record IsOutputOfRow (t : TableRecord) (row : ImportRow) (o : OutputRow) : Type 0 where
  pub least : o.min_us ≡ row.numbers.min_us
  pub most : o.max_us ≡ row.numbers.max_us
  pub hold : o.hold ≡ row.numbers.hold
  pub source : HasSourceOfRow t row o.source

-- the group of a row has the output of the row
pub record HasOutputOfRow (t : TableRecord) (row : ImportRow) : Type 0 where
  pub number : ℕ
  pub group : slice_get t.groups number ≡ Some (group_stated row)
  pub outputs : List OutputRow
  pub outputs_are : slice_get t.outputs number ≡ Some outputs
  pub place : ℕ
  pub output : OutputRow
  pub there : slice_get outputs place ≡ Some output
  pub is : IsOutputOfRow t row output

-- the record has the source of a row, and its output if the row names a group
pub record IsInRecord (t : TableRecord) (row : ImportRow) : Type 0 where
  pub source : (number : ℕ) × HasSourceOfRow t row number
  pub output : has_group row ≡ true → HasOutputOfRow t row

-- the record has each row of lines that describe a table
abbrev pub RowsAreInRecord : Type 0
RowsAreInRecord = (lines : List CsvLine) (rows : List ImportRow) → rows_stated lines ≡ Ok rows → AllByRecursion (IsInRecord (record_stated rows)) rows
