-- The text of a plan: what its lines state (profile: plan text, in the version of the equipment table).
use Rattle.std.specs.Prelude.{ℕ, ◌-◌, ◌^◌, ◌<◌, List, [], ◌∷◌, ◌++◌, Option, length, map, slice_get, sum}
use Rattle.std.specs.List.{AllByRecursion, flat_map}
use Rattle.std.specs.Option.{option_map_or}
use Rattle.a429_equipment.specs.TableRecord.{TableRecord}
use Rattle.a429_equipment.specs.declared.rows.GroupRow.{GroupRow}
use Rattle.a429_equipment.specs.declared.rows.SourceRow.{SourceRow}
use Rattle.a429_slots.specs.declared.group_plan.SlotPlace.{SlotPlace}
use Rattle.a429_slots.specs.Tables.{SlotTable, PlanTable, placed_at, outputs_of, order_of, demands_of, frame_of, buses_of, groups_of}
use Rattle.a429_cert.specs.Spelling.{Heading, Listing, Bounding, said_in, version_text, rate_text, output_text}
use Rattle.a429_cert.specs.Checked.{Stated, stated_text}

-- the name of a source; after the last source, nothing
abbrev pub source_name : List SourceRow → ℕ → List ℕ
source_name sources n = option_map_or (λ s. s.name) (slice_get sources n) []

-- in version 2 its bit rate, and the number of slots in a frame, and of buses
abbrev pub heading_of : ℕ → GroupRow → SlotTable → Heading
heading_of version g t = record { name = g.name; rate = said_in version g.rate; frame = frame_of t; buses = buses_of t }

-- an output at a place: its period in slots, its bus and its offset, and in version 2 its hold
abbrev pub placed_listing : ℕ → List ℕ → SlotPlace → Option ℕ → Listing
placed_listing version name place hold =
    record { source = name; period = 2 ^ place.period; bus = place.bus; offset = place.offset; hold = said_in version hold }

-- the source of each output is one of these
abbrev pub HasSources : List SourceRow → SlotTable → Type 0
HasSources sources t = AllByRecursion (λ o. o.source < length sources) (outputs_of t)

-- the output of this number
abbrev pub listing_of : ℕ → List SourceRow → SlotTable → ℕ → Listing
listing_of version sources t o =
    let placed = placed_at t o in
    placed_listing version (source_name sources placed.source) placed.place placed.limits.hold

-- the group's demand, against one bus less than it has
abbrev pub bound_of : SlotTable → Bounding
bound_of t = record { demand = sum (demands_of t); full_buses = buses_of t - 1; frame = frame_of t }

-- a group, with its outputs in layout order
abbrev pub stated_of : ℕ → List SourceRow → GroupRow → SlotTable → Stated
stated_of version sources g t =
    record { heading = heading_of version g t; outputs = map (listing_of version sources t) (order_of t); bound = bound_of t }

-- each group, in table order
abbrev pub stated_groups : ℕ → List SourceRow → List GroupRow → List SlotTable → List Stated
stated_groups version sources [] ts = []
stated_groups version sources (g ∷ gs) [] = []
stated_groups version sources (g ∷ gs) (t ∷ ts) = stated_of version sources g t ∷ stated_groups version sources gs ts

-- the lines of a group's outputs, in layout order
abbrev pub outputs_text : ℕ → List SourceRow → SlotTable → List ℕ
outputs_text version sources t = flat_map output_text (map (listing_of version sources t) (order_of t))

-- the lines of all groups, in table order
abbrev pub groups_text : TableRecord → PlanTable → List ℕ
groups_text e p = flat_map stated_text (stated_groups e.version e.sources e.groups (groups_of p))

-- the version, and the bit rate if all groups have one
abbrev pub head_text : TableRecord → List ℕ
head_text e = version_text e.version ++ option_map_or rate_text e.rate []

-- and then each group: its heading, a line for each output, its bound
abbrev pub plan_text_of : TableRecord → PlanTable → List ℕ
plan_text_of e p = head_text e ++ groups_text e p
