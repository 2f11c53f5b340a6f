-- What each bus carries and has room for: the rows of `load` (profile: docs/FORMATS.md, Output of `load`).
use Rattle.std.specs.Prelude.{ℕ, ◌+◌, ◌-◌, ◌*◌, ◌/◌, ◌^◌, List, [], ◌∷◌, ◌++◌, Bool, false, Option, None, Some, codes, count_by, if◌then◌else◌, is_none, is_some, length, map, nat_le, nat_lt, replicate, sum}
use Rattle.std.specs.Int.{div_ceil}
use Rattle.std.specs.List.{flat_map, list_all, list_any, range_with_len}
use Rattle.a429_text.specs.Fields.{Field, Text, Number, Tenths, Absent}
use Rattle.a429_equipment.specs.TableRecord.{TableRecord}
use Rattle.a429_equipment.specs.declared.rows.GroupRow.{GroupRow}
use Rattle.a429_equipment.specs.declared.rows.OutputRow.{OutputRow}
use Rattle.a429_equipment.specs.declared.rows.SourceRow.{SourceRow}
use Rattle.a429_slots.specs.Planned.{IsPlannedFor}
use Rattle.a429_slots.specs.Tables.{SlotTable, PlanTable, cell_at, frame_of, buses_of, groups_of, outputs_of}
use Rattle.a429_documents.specs.Limits.{AreNeeded, needed_buses}
use Rattle.a429_documents.specs.PlannedGroups.{PlannedGroup, of_groups}
use Rattle.a429_documents.specs.declared.load.row.Buses.{Buses}
use Rattle.a429_documents.specs.declared.load.row.Buses.TheVariants.{One, All}

-- ---- the cells of a bus

-- how many cells of a frame on a bus have an output
abbrev pub cells_on : SlotTable → ℕ → ℕ
cells_on t bus = count_by (λ slot. is_some (cell_at t bus slot)) (range_with_len 0 (frame_of t))

-- the same of each bus of a group
abbrev pub loads_of : SlotTable → List ℕ
loads_of t = map (cells_on t) (range_with_len 0 (buses_of t))

-- One more output of this period can have this offset on the bus: each of its cells is empty.
abbrev pub is_open : SlotTable → ℕ → ℕ → ℕ → Bool
is_open t bus period offset = list_all (λ n. is_none (cell_at t bus (offset + n * period))) (range_with_len 0 (frame_of t / period))

-- How many more outputs of this period a bus takes in the cells that are empty. Each has an offset of its own.
abbrev pub room_on : SlotTable → ℕ → ℕ → ℕ
room_on t bus period = count_by (is_open t bus period) (range_with_len 0 period)

-- ---- the columns

-- the group and its bit rate in bit/s, the bus, and its frame in slots
abbrev pub bus_columns : List (List ℕ)
bus_columns = codes "group" ∷ codes "rate" ∷ codes "bus" ∷ codes "frame_slots" ∷ []

-- the cells with an output and those without, the former in per cent of all, and the words that are sent in a second
abbrev pub cell_columns : List (List ℕ)
cell_columns = codes "cells" ∷ codes "free" ∷ codes "percent" ∷ codes "words_s" ∷ []

-- the fewest buses within the limit
abbrev pub limit_columns : List (List ℕ)
limit_columns = codes "needed" ∷ []

-- how many more outputs of a period in slots there is room for
abbrev pub room_columns : List (List ℕ)
room_columns = codes "period_slots" ∷ codes "room" ∷ []

abbrev pub load_columns : List (List ℕ)
load_columns = bus_columns ++ (cell_columns ++ (limit_columns ++ room_columns))

-- the periods from 2 on, in slots
abbrev pub room_periods : List ℕ
room_periods = 2 ∷ 4 ∷ 8 ∷ 16 ∷ 32 ∷ 64 ∷ 128 ∷ 256 ∷ 512 ∷ 1024 ∷ 2048 ∷ 4096 ∷ 8192 ∷ []

-- ---- the rows of some buses

-- The cells with an output in per cent of all cells of a frame, in tenths, rounded up.
abbrev pub percent_field : ℕ → List ℕ → Field
percent_field frame loads = Tenths (div_ceil (1000 * sum loads) (length loads * frame))

-- the words that are sent in a second, rounded up: a slot is 36 bit times
abbrev pub words_field : ℕ → ℕ → List ℕ → Field
words_field rate frame loads = Number (div_ceil (sum loads * rate) (36 * frame))

-- the buses of a row: one, or all of the group
abbrev pub listed_buses : SlotTable → Buses → List ℕ
listed_buses t (One bus) = bus ∷ []
listed_buses t All = range_with_len 0 (buses_of t)

abbrev pub bus_field : Buses → Field
bus_field (One bus) = Number bus
bus_field All = Absent

-- how many more outputs of a period these buses take
abbrev pub room_within : SlotTable → Buses → ℕ → ℕ
room_within t buses period = sum (map (λ bus. room_on t bus period) (listed_buses t buses))

-- the row of that room; a period above the frame has none
abbrev pub room_rows : PlannedGroup → Buses → ℕ → List (List Field)
room_rows g buses period =
    if nat_le period (frame_of g.table)
    then (Text g.row.name ∷ Absent ∷ bus_field buses ∷ replicate 6 Absent ++ (Number period ∷ Number (room_within g.table buses period) ∷ [])) ∷ [] else []

-- the row of some buses of a group with a frame of this number of slots, by the cells of each that have an output
abbrev pub load_row : GroupRow → ℕ → Field → List ℕ → Field → List Field
load_row g frame bus loads needed =
    Text g.name ∷ Number g.rate ∷ bus ∷ Number frame ∷ Number (sum loads) ∷ Number (length loads * frame - sum loads)
    ∷ percent_field frame loads ∷ words_field g.rate frame loads ∷ needed ∷ Absent ∷ Absent ∷ []

-- that row, and the room for each period
abbrev pub bus_rows_of : PlannedGroup → Buses → Field → List (List Field)
bus_rows_of g buses needed =
    load_row g.row (frame_of g.table) (bus_field buses) (map (cells_on g.table) (listed_buses g.table buses)) needed ∷ flat_map (room_rows g buses) room_periods

-- ---- the limit

-- a bus has more cells with an output than this part of its frame, in per cent
abbrev pub is_above : ℕ → ℕ → List ℕ → Bool
is_above limit frame loads = list_any (λ load. nat_lt (limit * frame) (100 * load)) loads

-- some bus of a group is above the limit; without a limit none is
abbrev pub has_above : Option ℕ → SlotTable → Bool
has_above None t = false
has_above (Some limit) t = is_above limit (frame_of t) (loads_of t)

-- the cells of a frame that each output of a group fills
abbrev pub shares_of : SlotTable → List ℕ
shares_of t = map (λ o. frame_of t / 2 ^ o.place.period) (outputs_of t)

-- the fewest buses; 0 if one output alone is above the limit
abbrev pub buses_field : Option ℕ → Field
buses_field None = Number 0
buses_field (Some buses) = Number buses

-- the fewest buses within the limit, if a bus is above it. A bus may have this part of its cells filled, rounded down.
abbrev pub needed_field : Option ℕ → SlotTable → Field
needed_field None t = Absent
needed_field (Some limit) t =
    if is_above limit (frame_of t) (loads_of t) then buses_field (needed_buses (limit * frame_of t / 100) (shares_of t)) else Absent

-- ---- the rows

-- the rows of a bus
abbrev pub bus_rows : PlannedGroup → ℕ → List (List Field)
bus_rows g bus = bus_rows_of g (One bus) Absent

-- the rows of all buses of a group together
abbrev pub total_rows : Option ℕ → PlannedGroup → List (List Field)
total_rows limit g = bus_rows_of g All (needed_field limit g.table)

-- the rows of each bus of a group, and then those of all its buses
abbrev pub group_rows : Option ℕ → PlannedGroup → List (List Field)
group_rows limit g = flat_map (bus_rows g) (range_with_len 0 (buses_of g.table)) ++ total_rows limit g

-- the rows of a plan
abbrev pub load_rows : Option ℕ → TableRecord → PlanTable → List (List Field)
load_rows limit e p = of_groups (group_rows limit) e p None

-- some bus of the plan is above the limit
abbrev pub any_above : Option ℕ → PlanTable → Bool
any_above limit p = list_any (has_above limit) (groups_of p)

-- ---- laws

-- The number of buses in the column `needed` is the fewest.
abbrev pub NeededBusesAreFewest : Type 0
NeededBusesAreFewest =
    (rate : ℕ) (sources : List SourceRow) (rows : List OutputRow) (t : SlotTable) → IsPlannedFor rate sources rows t
    → (capacity : ℕ) → AreNeeded (shares_of t) capacity (needed_buses capacity (shares_of t))
