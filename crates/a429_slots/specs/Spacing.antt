-- The cells of outputs by their places in a history, and how far apart a group sends words of one source (profile: docs/RULES.md, Sending). A place
-- is how many events come before it.
use Rattle.std.specs.Prelude.{◌≡◌, ◌+◌, ◌<◌, ◌≤◌, ◌^◌, ◌++◌, ◌∷◌, ℕ, IsTrue, List, Some, length, take, slice_get}
use Rattle.std.specs.List.{AllByRecursion}
use Rattle.a429_equipment.specs.Sound.{HaveOwnSources}
use Rattle.a429_equipment.specs.declared.rows.OutputRow.{OutputRow}
use Rattle.a429_equipment.specs.declared.rows.SourceRow.{SourceRow}
use Rattle.a429_slots.specs.Tables.{Placed, SlotTable, buses_of, outputs_of, output_in}
use Rattle.a429_slots.specs.Kept.{StandsJustAt}
use Rattle.a429_slots.specs.Planned.{IsPlannedFor, IsPlanOf}
use Rattle.a429_slots.specs.Proposed.{Proposed}
use Rattle.a429_slots.specs.Events.{Event, Cell, Publish}
use Rattle.a429_slots.specs.History.{Opening, OpensWith, AnsweredCell, current, cell_due, answered_cell, answered_cells, is_too_close}

-- at this place the group answers a cell of this output, in this slot counted from the station's first
pub record IsOutputCell (o : Opening) (g : ℕ) (p : SlotTable) (E : List Event) (k : ℕ) (output : Placed) (slot : ℕ) : Type 0 where
  pub asked : slice_get E k ≡ Some (Cell g)
  pub cell : ℕ × ℕ
  pub due : cell_due g (current o g p (take k E)) ≡ Some cell
  pub stands : output_in (current o g p (take k E)).table cell.0 cell.1 ≡ Some output
  pub counted : slot ≡ (current o g p (take k E)).first + cell.1

-- the number of the plan that is in force for the group
abbrev pub number_at : Opening → ℕ → SlotTable → List Event → ℕ → ℕ
number_at o g p E k = (current o g p (take k E)).number

-- what the group answers in the cell
abbrev pub answered_at : ℕ → Opening → ℕ → SlotTable → List Event → ℕ → Placed → ℕ → AnsweredCell
answered_at C o g p E k output slot = answered_cell C o (take k E) (answered_cells C o g p (take k E)) slot output

-- the cell sends this word
pub record Sends (C : ℕ) (o : Opening) (g : ℕ) (p : SlotTable) (E : List Event) (k : ℕ) (output : Placed) (slot word : ℕ) : Type 0 where
  pub cell : IsOutputCell o g p E k output slot
  pub sent : (answered_at C o g p E k output slot).word ≡ Some word

-- the cell is empty because of the spacing
abbrev pub IsTooClose : ℕ → Opening → ℕ → SlotTable → List Event → ℕ → Placed → ℕ → Type 0
IsTooClose C o g p E k output slot = IsTrue (is_too_close (answered_cells C o g p (take k E)) slot output.source output.limits.spacing)

-- at an earlier place a word of the output's source was sent, fewer slots before than words of the output are apart
pub record IsSentWithin (C : ℕ) (o : Opening) (g : ℕ) (p : SlotTable) (E : List Event) (k : ℕ) (output : Placed) (slot : ℕ) : Type 0 where
  pub place : ℕ
  pub before : place < k
  pub earlier : Placed
  pub at : ℕ
  pub word : ℕ
  pub sends : Sends C o g p E place earlier at word
  pub same : earlier.source ≡ output.source
  pub close : slot < at + output.limits.spacing

-- A slot table in which each output has a source of its own, is on one of the buses, and is exactly periodic. Its
-- period keeps to its spacing.
pub record IsSpacedTable (t : SlotTable) : Type 0 where
  pub own : (a b : ℕ) (x y : Placed) → slice_get (outputs_of t) a ≡ Some x → slice_get (outputs_of t) b ≡ Some y → x.source ≡ y.source → a ≡ b
  pub on_a_bus : (n : ℕ) (x : Placed) → slice_get (outputs_of t) n ≡ Some x → x.place.bus < buses_of t
  pub periodic : (n : ℕ) (x : Placed) → slice_get (outputs_of t) n ≡ Some x → StandsJustAt t n x.place.bus x.place.offset (2 ^ x.place.period)
  pub fits : (n : ℕ) (x : Placed) → slice_get (outputs_of t) n ≡ Some x → x.place.period ≤ t.frame
  pub spaced : (n : ℕ) (x : Placed) → slice_get (outputs_of t) n ≡ Some x → x.limits.spacing ≤ 2 ^ x.place.period

-- the slot table that is in force at this place is such a one
abbrev pub HasSpacedTable : Opening → ℕ → SlotTable → List Event → ℕ → Type 0
HasSpacedTable o g p E k = IsSpacedTable (current o g p (take k E)).table

-- a proposal with the plan of its own table, its number apart, whose outputs have sources of their own
pub record IsOwnPlan (q : Proposed) : Type 0 where
  pub plan : IsPlanOf q.station (record q.plan { number = 0 })
  pub own : AllByRecursion HaveOwnSources q.station.outputs

-- the opening proposal is one, and each that is published
pub record HaveOwnPlans (o : Opening) (E : List Event) : Type 0 where
  pub opening : IsOwnPlan o.proposal
  pub published : (before after : List Event) (q : Proposed) → E ≡ before ++ Publish q ∷ after → IsOwnPlan q

-- ---- laws

-- two words of one source that a group sends are as far apart as the plan in force at the second asks
abbrev pub WordsAreApart : Type 0
WordsAreApart =
    (C : ℕ) (o : Opening) (g : ℕ) (p : SlotTable) (E : List Event) (j k : ℕ) (earlier now : Placed) (u t w x : ℕ) → j < k
    → Sends C o g p E j earlier u w → Sends C o g p E k now t x → earlier.source ≡ now.source → u + now.limits.spacing ≤ t

-- a cell is empty because of the spacing only if a word of the source was sent within it
abbrev pub EmptyCellsFollowWords : Type 0
EmptyCellsFollowWords =
    (C : ℕ) (o : Opening) (g : ℕ) (p : SlotTable) (E : List Event) (k : ℕ) (now : Placed) (t : ℕ) → k < length E
    → IsTooClose C o g p E k now t → IsSentWithin C o g p E k now t

-- two cells of one source by one plan are as far apart as the plan asks
abbrev pub CellsOfOnePlanAreApart : Type 0
CellsOfOnePlanAreApart =
    (o : Opening) (g : ℕ) (p : SlotTable) (E : List Event) (j k : ℕ) (earlier now : Placed) (u t : ℕ) → OpensWith o g p → j < k
    → IsOutputCell o g p E j earlier u → IsOutputCell o g p E k now t → earlier.source ≡ now.source
    → number_at o g p E j ≡ number_at o g p E k → HasSpacedTable o g p E k → u + now.limits.spacing ≤ t

-- before a cell that is empty because of the spacing there is none of its source by the same plan
abbrev pub EmptyCellsAreFirst : Type 0
EmptyCellsAreFirst =
    (C : ℕ) (o : Opening) (g : ℕ) (p : SlotTable) (E : List Event) (i k : ℕ) (x now : Placed) (s t : ℕ) → OpensWith o g p
    → HasSpacedTable o g p E k → i < k → IsOutputCell o g p E i x s → IsOutputCell o g p E k now t → x.source ≡ now.source
    → IsTooClose C o g p E k now t → ¬ (number_at o g p E i ≡ number_at o g p E k)

-- by the opening plan no cell is empty because of the spacing
abbrev pub OpeningPlanEmptiesNone : Type 0
OpeningPlanEmptiesNone =
    (C : ℕ) (o : Opening) (g : ℕ) (p : SlotTable) (E : List Event) (k : ℕ) (now : Placed) (t : ℕ) → OpensWith o g p
    → HasSpacedTable o g p E k → IsOutputCell o g p E k now t → number_at o g p E k ≡ o.proposal.plan.number → ¬ (IsTooClose C o g p E k now t)

-- the slot table of a planned group whose outputs have sources of their own keeps to the spacings
abbrev pub PlannedTablesAreSpaced : Type 0
PlannedTablesAreSpaced =
    (rate : ℕ) (sources : List SourceRow) (rows : List OutputRow) (t : SlotTable)
    → IsPlannedFor rate sources rows t → HaveOwnSources rows → IsSpacedTable t

-- if each plan is that of its own table, the slot table in force keeps to the spacings at every place
abbrev pub PlansInForceAreSpaced : Type 0
PlansInForceAreSpaced =
    (o : Opening) (g : ℕ) (p : SlotTable) (E : List Event) (k : ℕ) → OpensWith o g p → HaveOwnPlans o E → HasSpacedTable o g p E k
