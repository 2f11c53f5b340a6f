-- What an equipment table asks of the text of its plan (profile: docs/FORMATS.md, Plan text).
use Rattle.std.specs.Prelude.{◌≡◌, ℕ, List, Option, Some, MatchOption, map, take, slice_get}
use Rattle.std.specs.List.{AllZip, AllByRecursion}
use Rattle.a429_grid.specs.Grid.{HasNoGridPeriod, IsGridPeriod}
use Rattle.a429_equipment.specs.TableRecord.{TableRecord}
use Rattle.a429_equipment.specs.declared.rows.OutputRow.{OutputRow}
use Rattle.a429_equipment.specs.declared.rows.SourceRow.{SourceRow}
use Rattle.a429_slots.specs.Planned.{IsFit, IsFirstUnfit, rated_outputs}
use Rattle.a429_cert.specs.declared.due.DueOutput.{DueOutput}
use Rattle.a429_cert.specs.declared.due.DueGroup.{DueGroup}
use Rattle.a429_cert.specs.declared.due.DueTable.{DueTable}

-- an output is due with the name of its row's source, the grid period of the row's interval at the bit rate of its group, and the row's hold
pub record IsDueOutput (e : TableRecord) (rate : ℕ) (row : OutputRow) (o : DueOutput) : Type 0 where
  pub source : SourceRow
  pub there : slice_get e.sources row.source ≡ Some source
  pub name : o.source ≡ source.name
  pub period : IsGridPeriod row.min_us row.max_us rate o.period
  pub hold : o.hold ≡ row.hold

-- what is due of a row: an output, or nothing if the row's interval allows no grid period
abbrev pub IsDueOfRow : TableRecord → ℕ → OutputRow → Option DueOutput → Type 0
IsDueOfRow e rate row due = MatchOption due (HasNoGridPeriod row.min_us row.max_us rate) (IsDueOutput e rate row)

-- these are the outputs that are due of group g at this rate, in table order
abbrev pub AreDueOfGroup : TableRecord → ℕ → ℕ → List DueOutput → Type 0
AreDueOfGroup e rate g outputs = (rows : List OutputRow) × (slice_get e.outputs g ≡ Some rows) × AllZip (IsDueOutput e rate) rows outputs

-- a group with its bit rate, and each of its outputs in table order
pub record IsDueGroup (e : TableRecord) (rated : ℕ × List OutputRow) (g : DueGroup) : Type 0 where
  pub rate : g.rate ≡ rated.0
  pub outputs : AllZip (IsDueOutput e rated.0) rated.1 g.outputs.items

-- the version, the bit rate of all groups if the table has one, and each group with its name, its bit rate and its
-- outputs, in table order
pub record IsDue (e : TableRecord) (t : DueTable) : Type 0 where
  pub version : t.version ≡ e.version
  pub rate : t.rate ≡ e.rate
  pub names : map (λ g. g.name) t.groups.items ≡ map (λ g. g.name) e.groups
  pub groups : AllZip (IsDueGroup e) (rated_outputs e) t.groups.items

-- the interval of each output allows a grid period at the bit rate that comes with them
abbrev pub OutputsAreFit : ℕ × List OutputRow → Type 0
OutputsAreFit rated = AllByRecursion (IsFit rated.0) rated.1

-- output o of group g is the first in table order whose interval allows no grid period at the bit rate of its group
pub record IsFirstUnfitOf (e : TableRecord) (g o : ℕ) : Type 0 where
  pub rate : ℕ
  pub rows : List OutputRow
  pub there : slice_get (rated_outputs e) g ≡ Some (rate, rows)
  pub unfit : IsFirstUnfit rate rows o
  pub earlier : AllByRecursion OutputsAreFit (take g (rated_outputs e))
