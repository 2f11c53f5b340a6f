-- What the rows of a group ask of its layout (profile: layout).
use Rattle.std.specs.Prelude.{◌≡◌, ◌/◌, ◌%◌, ◌^◌, ◌<◌, ℕ, List, Some, MatchOption, length, map, slice_get, slice_index}
use Rattle.a429_grid.specs.Grid.{HasNoGridPeriod, least_spacing}
use Rattle.a429_grid.specs.Reversal.{reversed}
use Rattle.a429_pack.specs.declared.demands.Demand.{Demand}
use Rattle.a429_pack.specs.Demands.{exponent_of}
use Rattle.a429_pack.specs.Layout.{Layout}
use Rattle.a429_pack.specs.Sums.{start_of}
use Rattle.a429_equipment.specs.declared.rows.OutputRow.{OutputRow}
use Rattle.a429_equipment.specs.declared.rows.SourceRow.{SourceRow}
use Rattle.a429_slots.specs.declared.group_plan.SendLimits.{SendLimits}
use Rattle.a429_slots.specs.Tables.{SlotTable, demands_of}
use Rattle.a429_slots.specs.Kept.{BeginsAt}
use Rattle.a429_slots.specs.Planned.{HasPeriod}

-- the grid period of the row's interval, if there is one, and the label and SDI of its source
pub record IsAsked (rate : ℕ) (sources : List SourceRow) (row : OutputRow) (d : Demand) : Type 0 where
  pub period : MatchOption d.period (HasNoGridPeriod row.min_us row.max_us rate) (HasPeriod rate row)
  pub source : SourceRow
  pub there : slice_get sources row.source ≡ Some source
  pub label : d.label ≡ source.label
  pub sdi : d.sdi ≡ source.sdi

-- what limits the sends of the row's output: its hold, and the spacing of its interval
abbrev pub limits_at : ℕ → OutputRow → SendLimits
limits_at rate row = record { hold = row.hold; spacing = least_spacing row.min_us rate }

-- each output of a layout has here the bus on which its stretch begins
abbrev pub AreBusesOf : Layout → List ℕ → Type 0
AreBusesOf l buses = (k : ℕ) → k < length l.inputs → slice_index buses (slice_index l.inputs k) ≡ start_of l.demands k / 2 ^ l.frame

-- the offset of each: the digits in reverse of the place on the bus at which its stretch begins
abbrev pub AreOffsetsOf : Layout → List ℕ → Type 0
AreOffsetsOf l offsets =
    (k : ℕ) → k < length l.inputs → slice_index offsets (slice_index l.inputs k) ≡ reversed l.frame (start_of l.demands k % 2 ^ l.frame)

-- the table of a layout, with its outputs' rows and what they ask
pub record IsTableOf (rate : ℕ) (l : Layout) (rows : List OutputRow) (asked : List Demand) (t : SlotTable) : Type 0 where
  pub frame : t.frame ≡ l.frame
  pub buses : t.buses ≡ l.buses
  pub demands : demands_of t ≡ l.demands
  pub order : t.order ≡ l.inputs
  pub sources : map (λ x. x.source) t.outputs ≡ map (λ (r : OutputRow). r.source) rows
  pub periods : map (λ x. x.place.period) t.outputs ≡ map exponent_of asked
  pub limits : map (λ x. x.limits) t.outputs ≡ map (limits_at rate) rows
  pub places : (k : ℕ) → k < length t.outputs → BeginsAt t (slice_index t.order k) (start_of (demands_of t) k)
