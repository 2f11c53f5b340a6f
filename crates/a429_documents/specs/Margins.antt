-- What would save a bus in each group: the rows of `margin` (profile: margin).
use Rattle.std.specs.Prelude.{ℕ, zero, suc, ◌-◌, ◌*◌, ◌/◌, ◌^◌, ◌≤◌, ◌≡◌, ◌⊎◌, List, [], ◌∷◌, ◌++◌, Bool, true, false, Option, None, OnOk, Result, Some, codes, if◌then◌else◌, is_some, length, map, nat_lt, replicate, slice_index_or, sum}
use Rattle.std.specs.List.{flat_map, range_with_len}
use Rattle.a429_text.specs.Fields.{Field, Text, Number, Absent}
use Rattle.a429_equipment.specs.TableRecord.{TableRecord}
use Rattle.a429_equipment.specs.declared.rows.GroupRow.{GroupRow}
use Rattle.a429_equipment.specs.declared.rows.OutputRow.{OutputRow}
use Rattle.a429_grid.specs.Grid.{IsGridPeriod, IsPeriod, slot_time}
use Rattle.a429_pack.specs.Widening.{IsLeastSaving, NoneSaves}
use Rattle.a429_pack.specs.Windows.{raw_bound}
use Rattle.a429_slots.specs.Tables.{SlotTable, PlanTable, outputs_of, demands_of, frame_of, buses_of, groups_of}
use Rattle.a429_slots.specs.Times.{slots_us}
use Rattle.a429_documents.specs.PlannedGroups.{PlannedGroup, PlannedOutput, group_at, output_at}

-- the number of whole slots in the output's maximum interval at this bit rate (profile: raw bound)
abbrev pub window_of : ℕ → OutputRow → ℕ
window_of rate row = row.max_us * rate / slot_time

-- the exponents of the periods of a group's outputs, in table order
abbrev pub periods_of : SlotTable → List ℕ
periods_of t = map (λ o. o.place.period) (outputs_of t)

-- ---- the choice

-- The outputs that get the next longer period to save a bus, as marks. No choice that saves a bus frees fewer cells.
-- `None` if no choice saves a bus, or the group has only one.
abbrev pub IsChoice : List ℕ → ℕ → Option (List Bool) → Type 0
IsChoice periods buses None = (buses ≤ 1) ⊎ NoneSaves periods buses
IsChoice periods buses (Some marks) = IsLeastSaving periods buses marks

abbrev pub is_chosen : Option (List Bool) → ℕ → Bool
is_chosen None o = false
is_chosen (Some marks) o = slice_index_or marks o false

-- ---- the rows

abbrev pub margin_columns : List (List ℕ)
margin_columns =
    codes "group" ∷ codes "frame_slots" ∷ codes "buses" ∷ codes "excess" ∷ codes "bound" ∷ codes "source" ∷ codes "period_slots" ∷ codes "next_slots" ∷ codes "less"
    ∷ codes "max_us" ∷ codes "choose" ∷ []

-- a number of empty columns
abbrev pub nothing : ℕ → List Field
nothing count = replicate count Absent

abbrev pub yes_or_no : Bool → Field
yes_or_no true = Text (codes "yes")
yes_or_no false = Text (codes "no")

-- whether a choice saves a bus; nothing, if the group has one bus
abbrev pub saves : ℕ → Option (List Bool) → Field
saves buses chosen = if nat_lt buses 2 then Absent else yes_or_no (is_some chosen)

-- The row of a group: its frame in slots, and its buses. Then the cells that are too many for one bus less: those for which the other buses have no
-- room. Then the number of buses that any schedule needs at least for the intervals themselves. Last whether a choice saves a bus.
abbrev pub group_row_of : GroupRow → SlotTable → ℕ → Option (List Bool) → List Field
group_row_of g t bound chosen =
    Text g.name ∷ Number (frame_of t) ∷ Number (buses_of t)
    ∷ Number (sum (demands_of t) - (buses_of t - 1) * frame_of t) ∷ Number bound ∷ nothing 5
    ++ (saves (buses_of t) chosen ∷ [])

abbrev pub group_row : PlannedGroup → Option (List Bool) → List Field
group_row g chosen = group_row_of g.row g.table (raw_bound (map (window_of g.row.rate) g.rows)) chosen

-- The row of an output with the next longer period: both periods in slots, the number of its cells in this frame that become free (half of them), the
-- maximum interval that it needs, and whether it is chosen.
abbrev pub wider_row : ℕ → Bool → PlannedOutput → List Field
wider_row frame chosen o =
    Text o.group.name ∷ nothing 4
    ++ (Text o.source.name ∷ Number (2 ^ o.place.period) ∷ Number (2 * 2 ^ o.place.period) ∷ Number (frame / (2 * 2 ^ o.place.period))
    ∷ Number (slots_us o.group.rate (2 * 2 ^ o.place.period)) ∷ yes_or_no chosen ∷ [])

-- the row of an output whose period is shorter than the frame; other outputs have no row
abbrev pub output_margin : ℕ → Bool → PlannedOutput → List (List Field)
output_margin frame chosen o = if nat_lt (2 ^ o.place.period) frame then wider_row frame chosen o ∷ [] else []

-- the rows of a group's outputs, in table order
abbrev pub outputs_margin : PlannedGroup → Option (List Bool) → List (List Field)
outputs_margin g chosen =
    flat_map (λ o. output_margin (frame_of g.table) (is_chosen chosen o) (output_at g o)) (range_with_len 0 (length (outputs_of g.table)))

-- these rows, if the group has more than one bus
abbrev pub choice_rows : PlannedGroup → Option (List Bool) → List (List Field)
choice_rows g chosen = if nat_lt (buses_of g.table) 2 then [] else outputs_margin g chosen

-- a group with a right choice, and the outputs that could free cells
abbrev pub IsGroupMargin : PlannedGroup → List (List Field) → Type 0
IsGroupMargin g all =
    (chosen : Option (List Bool)) × IsChoice (periods_of g.table) (buses_of g.table) chosen × (all ≡ group_row g chosen ∷ choice_rows g chosen)

-- the rows of the first groups, up to a count, in table order
abbrev pub AreMargins : TableRecord → PlanTable → ℕ → List (List Field) → Type 0
AreMargins e p zero all = all ≡ []
AreMargins e p (suc n) all =
    (before : List (List Field)) × (last : List (List Field)) × AreMargins e p n before × IsGroupMargin (group_at e p n) last × (all ≡ before ++ last)

abbrev pub IsMargin : TableRecord → PlanTable → List (List Field) → Type 0
IsMargin e p rows = AreMargins e p (length (groups_of p)) rows

-- if the call succeeds, the list has added rows at its end, of which this is known
abbrev pub AddsSuch : {A E : Type 0} → Result A E → List (List Field) → List (List Field) → (List (List Field) → Type 0) → Type 0
AddsSuch result old new AreSuch = OnOk result ((rows : List (List Field)) × AreSuch rows × (new ≡ old ++ rows))

-- if the maximum interval becomes the duration of twice the grid period, twice the period is the grid period, if the grid has it
abbrev pub WiderIntervalsAreNext : Type 0
WiderIntervalsAreNext =
    (min_us max_us rate p : ℕ) → 1 ≤ rate → rate ≤ 100000 → IsPeriod (2 * p) → IsGridPeriod min_us max_us rate p
    → IsGridPeriod min_us (slots_us rate (2 * p)) rate (2 * p)
