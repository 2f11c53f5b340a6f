-- Slot tables as contracts see them, and which output is in which cell (profile: layout).
use Rattle.std.specs.Prelude.{◌==◌, ◌&&◌, ◌*◌, ◌/◌, ◌%◌, ◌^◌, [], ℕ, Bool, List, Option, None, get_or, map, option_and_then, option_map, position, slice_get}
use Rattle.a429_slots.specs.declared.group_plan.SendLimits.{SendLimits}
use Rattle.a429_slots.specs.declared.group_plan.SlotPlace.{SlotPlace}

-- an output: the number of its source, its place, and what limits its sends
pub record Placed : Type 0 where
  pub source : ℕ
  pub place : SlotPlace
  pub limits : SendLimits

-- The slot table of a group: its frame has 2^frame slots on each of its buses. It has the outputs by their numbers, and these numbers in
-- layout order.
pub record SlotTable : Type 0 where
  pub frame : ℕ
  pub buses : ℕ
  pub outputs : List Placed
  pub order : List ℕ

abbrev pub unlimited : SendLimits
unlimited = record { hold = None; spacing = 0 }

-- the output that a read past the end gives
abbrev pub unplaced : Placed
unplaced = record { source = 0; place = record { bus = 0; offset = 0; period = 0 }; limits = unlimited }

-- the outputs by their numbers
abbrev pub outputs_of : SlotTable → List Placed
outputs_of t = t.outputs

-- the output of this number
abbrev pub placed_at : SlotTable → ℕ → Placed
placed_at t o = get_or t.outputs o unplaced

-- the numbers of the outputs in layout order
abbrev pub order_of : SlotTable → List ℕ
order_of t = t.order

-- how many slots the frame has
abbrev pub frame_of : SlotTable → ℕ
frame_of t = 2 ^ t.frame

abbrev pub buses_of : SlotTable → ℕ
buses_of t = t.buses

-- how many cells a frame has: its slots on each bus
abbrev pub cells_of : SlotTable → ℕ
cells_of t = buses_of t * frame_of t

-- how many slots of a frame an output has
abbrev pub share_of : SlotTable → ℕ → ℕ
share_of t o = frame_of t / 2 ^ (placed_at t o).place.period

-- the demands: the shares of the outputs in layout order
abbrev pub demands_of : SlotTable → List ℕ
demands_of t = map (share_of t) t.order

-- the output is on this bus in this slot, counted from the frame's start
abbrev pub stands_in : ℕ → ℕ → Placed → Bool
stands_in bus slot o = o.place.bus == bus && slot % 2 ^ o.place.period == o.place.offset

-- the number of the output in a cell
unfoldable pub cell_at : SlotTable → ℕ → ℕ → Option ℕ
cell_at t bus slot = position (stands_in bus slot) (outputs_of t)

-- the place of an output
abbrev pub place_of : SlotTable → ℕ → Option SlotPlace
place_of t o = option_map (λ p. p.place) (slice_get (outputs_of t) o)

-- the source of an output
abbrev pub source_of : SlotTable → ℕ → Option ℕ
source_of t o = option_map (λ p. p.source) (slice_get (outputs_of t) o)

-- what limits the sends of an output
abbrev pub limits_of : SlotTable → ℕ → Option SendLimits
limits_of t o = option_map (λ p. p.limits) (slice_get (outputs_of t) o)

-- the output in a cell
abbrev pub output_in : SlotTable → ℕ → ℕ → Option Placed
output_in t bus slot = option_and_then (λ o. slice_get (outputs_of t) o) (cell_at t bus slot)

-- the source of the output in a cell
abbrev pub source_at : SlotTable → ℕ → ℕ → Option ℕ
source_at t bus slot = option_and_then (source_of t) (cell_at t bus slot)

-- the table of a group without outputs
abbrev pub no_table : SlotTable
no_table = record { frame = 0; buses = 0; outputs = []; order = [] }

-- the slot tables of the groups, in table order, and the number of the plan
pub record PlanTable : Type 0 where
  pub groups : List SlotTable
  pub number : ℕ

abbrev pub groups_of : PlanTable → List SlotTable
groups_of p = p.groups
