-- The history of one group of a station (vocabulary of contracts).
use Rattle.std.specs.Prelude.{ℕ, List, take}
use Rattle.a429_slots.specs.Tables.{Placed, SlotTable}
use Rattle.a429_slots.specs.Events.{Event}
use Rattle.a429_slots.specs.History.{Current, Opening, OpensWith, current}
use Rattle.a429_slots.specs.Spacing.{HasSpacedTable, HaveOwnPlans, IsOutputCell, number_at}

-- how the station opened, a group of it with the slot table that it opened with, and the events since, in order
pub record GroupHistory : Type 0 where
  pub opening : Opening
  pub group : ℕ
  pub table : SlotTable
  pub events : List Event

abbrev pub history_of : Opening → ℕ → SlotTable → List Event → GroupHistory
history_of o g p E = record { opening = o; group = g; table = p; events = E }

-- the frame that the group is in before place k, which is how many events come before it
abbrev pub current_at : GroupHistory → ℕ → Current
current_at E k = current E.opening E.group E.table (take k E.events)

-- the number of the plan in force there
abbrev pub number_of_plan : GroupHistory → ℕ → ℕ
number_of_plan E k = number_at E.opening E.group E.table E.events k

-- the group's slot table is that of the opening plan
abbrev pub HasOpeningTable : GroupHistory → Type 0
HasOpeningTable E = OpensWith E.opening E.group E.table

-- each plan is that of its own table
abbrev pub HasOwnPlans : GroupHistory → Type 0
HasOwnPlans E = HaveOwnPlans E.opening E.events

-- the slot table in force at place k keeps to the spacings of its outputs
abbrev pub IsSpacedAt : GroupHistory → ℕ → Type 0
IsSpacedAt E k = HasSpacedTable E.opening E.group E.table E.events k

-- at place k the group is asked for a cell, which has this output, in this slot
abbrev pub IsCellAt : GroupHistory → ℕ → Placed → ℕ → Type 0
IsCellAt E k output slot = IsOutputCell E.opening E.group E.table E.events k output slot
