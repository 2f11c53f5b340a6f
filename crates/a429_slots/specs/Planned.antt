-- What is true of every plan, and when a station has none (profile: layout).
use Rattle.std.specs.Prelude.{◌≡◌, ◌<◌, ◌≤◌, ◌^◌, ℕ, List, Some, length, map, take, slice_get, slice_index, option_and_then}
use Rattle.std.specs.List.{AllZip, AllByRecursion, range_with_len, zip}
use Rattle.std.specs.List.Sorted.{IsPermutation}
use Rattle.std.specs.Option.{option_map_or}
use Rattle.a429_grid.specs.Grid.{IsGridPeriod, HasNoGridPeriod, IsLeastSpacing}
use Rattle.a429_pack.specs.declared.demands.Demand.{Demand}
use Rattle.a429_pack.specs.Demanded.{AreFewestBuses}
use Rattle.a429_pack.specs.Demands.{IsLayoutOrder, greatest, exponents_of}
use Rattle.a429_pack.specs.Sums.{start_of}
use Rattle.a429_equipment.specs.TableRecord.{TableRecord}
use Rattle.a429_equipment.specs.declared.rows.OutputRow.{OutputRow}
use Rattle.a429_equipment.specs.declared.rows.SourceRow.{SourceRow}
use Rattle.a429_slots.specs.Tables.{Placed, SlotTable, PlanTable, placed_at, outputs_of, order_of, demands_of, frame_of, buses_of, groups_of}
use Rattle.a429_slots.specs.Kept.{BeginsAt, BlocksFollow, StandsJustAt}

-- 2^k is the grid period of the output's interval at this rate
abbrev pub HasPeriod : ℕ → OutputRow → ℕ → Type 0
HasPeriod rate row k = IsGridPeriod row.min_us row.max_us rate (2 ^ k)

-- The output has the source of its row. Its period is the grid period of the row's interval. Its sends are limited by
-- the row's hold and by the spacing of the interval.
abbrev pub IsServed : ℕ → OutputRow → Placed → Type 0
IsServed rate row o =
    (o.source ≡ row.source) × HasPeriod rate row o.place.period × (o.limits.hold ≡ row.hold) × IsLeastSpacing row.min_us rate o.limits.spacing

-- what an output asks of the layout: its period, and the label and SDI of its source
abbrev pub asked_by : List SourceRow → Placed → Demand
asked_by sources o = record {
  period = Some o.place.period;
  label = option_map_or (λ s. s.label) (slice_get sources o.source) 0;
  sdi = option_and_then (λ s. s.sdi) (slice_get sources o.source);
}

abbrev pub asked_of : List SourceRow → SlotTable → List Demand
asked_of sources t = map (asked_by sources) (outputs_of t)

-- The number of buses is the fewest for these rows. Each row has a grid period at this bit rate. In some schedule of
-- that number of buses each output recurs within its period, and in none of fewer. A schedule is of any form, and at
-- least as long as the greatest of the periods.
pub record AreFewestBusesFor (rate : ℕ) (rows : List OutputRow) (buses : ℕ) : Type 0 where
  pub exponents : List ℕ
  pub fit : AllZip (HasPeriod rate) rows exponents
  pub fewest : AreFewestBuses exponents buses

-- The outputs of a group, each as its row of the equipment table asks, in cells of its own on the fewest buses. The frame is the greatest
-- period. The order is that of their blocks.
pub record IsPlannedFor (rate : ℕ) (sources : List SourceRow) (rows : List OutputRow) (t : SlotTable) : Type 0 where
  pub served : AllZip (IsServed rate) rows (outputs_of t)
  pub frame : t.frame ≡ greatest (exponents_of (asked_of sources t))
  pub order : IsPermutation (range_with_len 0 (length (outputs_of t))) (order_of t)
  pub follow : BlocksFollow t
  pub on_bus : (o : ℕ) → o < length (outputs_of t) → (placed_at t o).place.bus < buses_of t
  pub periodic : (o : ℕ) → o < length (outputs_of t)
      → StandsJustAt t o (placed_at t o).place.bus (placed_at t o).place.offset (2 ^ (placed_at t o).place.period)
  pub fewest : AreFewestBusesFor rate rows (buses_of t)
  pub few_buses : buses_of t ≤ 16
  pub few_slots : frame_of t ≤ 8192

-- the outputs of each group, with the bit rate of its buses
abbrev pub rated_outputs : TableRecord → List (ℕ × List OutputRow)
rated_outputs e = zip (map (λ g. g.rate) e.groups) e.outputs

-- the table is one for these outputs, at the bit rate that comes with them
abbrev pub IsPlannedAt : List SourceRow → ℕ × List OutputRow → SlotTable → Type 0
IsPlannedAt sources rated t = IsPlannedFor rated.0 sources rated.1 t

-- the plan of a station: a slot table for each group, in table order, under the number 0
pub record IsPlanOf (e : TableRecord) (p : PlanTable) : Type 0 where
  pub number : p.number ≡ 0
  pub count : length (groups_of p) ≡ length e.groups
  pub groups : AllZip (IsPlannedAt e.sources) (rated_outputs e) (groups_of p)

-- ---- the concentrator's own layout

-- The outputs follow one another by period, then label as a number, then SDI with any before 0, then place in the table. The number of an output's
-- places is its demand, its slots in a frame. They begin at the end of those before it.
pub record IsLayout (sources : List SourceRow) (t : SlotTable) : Type 0 where
  pub order : IsLayoutOrder (asked_of sources t) (order_of t)
  pub places : (k : ℕ) → k < length (outputs_of t) → BeginsAt t (slice_index (order_of t) k) (start_of (demands_of t) k)

-- each group of the plan is laid out so
abbrev pub HasOwnLayout : TableRecord → PlanTable → Type 0
HasOwnLayout e p = AllByRecursion (IsLayout e.sources) (groups_of p)

-- ---- tables

-- the source of each row is one of these
abbrev pub HaveSources : List SourceRow → List OutputRow → Type 0
HaveSources sources rows = AllByRecursion (λ o. o.source < length sources) rows

-- no group has more than n outputs
abbrev pub HaveRoom : ℕ → List (List OutputRow) → Type 0
HaveRoom n outputs = AllByRecursion (λ rows. length rows ≤ n) outputs

-- ---- when there is no plan

-- the interval of the output allows a period of the grid
abbrev pub IsFit : ℕ → OutputRow → Type 0
IsFit rate row = (k : ℕ) × HasPeriod rate row k

-- output o is the first of the group whose interval allows none
pub record IsFirstUnfit (rate : ℕ) (rows : List OutputRow) (o : ℕ) : Type 0 where
  pub row : OutputRow
  pub there : slice_get rows o ≡ Some row
  pub unfit : HasNoGridPeriod row.min_us row.max_us rate
  pub earlier : AllByRecursion (IsFit rate) (take o rows)

-- each output has a grid period, and the fewest buses are more than a group can have
abbrev pub NeedsTooMany : ℕ → List OutputRow → ℕ → Type 0
NeedsTooMany rate rows needed = AreFewestBusesFor rate rows needed × (16 < needed)

-- each has one, and they are not
abbrev pub CanBePlanned : ℕ → List OutputRow → Type 0
CanBePlanned rate rows = (needed : ℕ) × AreFewestBusesFor rate rows needed × (needed ≤ 16)

-- the same of outputs with their bit rate
abbrev pub CanBePlannedAt : ℕ × List OutputRow → Type 0
CanBePlannedAt rated = CanBePlanned rated.0 rated.1

-- group g is the first that cannot be planned, for this reason
pub record IsFirstFaulty (e : TableRecord) (g : ℕ) (IsFault : ℕ → List OutputRow → Type 0) : Type 0 where
  pub rate : ℕ
  pub rows : List OutputRow
  pub there : slice_get (rated_outputs e) g ≡ Some (rate, rows)
  pub fault : IsFault rate rows
  pub earlier : AllByRecursion CanBePlannedAt (take g (rated_outputs e))
