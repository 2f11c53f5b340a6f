-- The words that a transmitter sends, by the places of its calls: how far apart they are, and how often one accepted word is sent
-- (profile: docs/RULES.md, Sending). A place is how many calls come before it.
use Rattle.std.specs.Prelude.{◌≡◌, ◌+◌, ◌<◌, ◌≤◌, [], ℕ, true, List, Option, Some, None, take, slice_get, flat_map, option_and_then}
use Rattle.std.specs.List.{AllByRecursion}
use Rattle.a429_equipment.specs.declared.loads.Load.{Load}
use Rattle.a429_slots.specs.Tables.{Placed, SlotTable, PlanTable, groups_of, output_in}
use Rattle.a429_slots.specs.History.{AnsweredCell, is_too_close, times_sent}
use Rattle.a429_slots.specs.FrameStates.{next_cell}
use Rattle.a429_slots.specs.Spacing.{IsSpacedTable}
use Rattle.a429_workers.specs.Calls.{Call, Asks, Turns, Meets, Carried, GroupState, AreLawful, state_after, answered_by}

-- the state after the calls before this place
abbrev pub standing_at : ℕ → SlotTable → GroupState → List Call → ℕ → GroupState
standing_at g p s calls k = state_after g p s (take k calls)

-- the output of the next cell, by the plan in force
abbrev pub output_due : GroupState → Option Placed
output_due s = option_and_then (λ cell. output_in s.frame.table cell.0 cell.1) (next_cell s.frame)

-- at this place a cell is answered in which a word goes out, by this load
pub record SendsAt (calls : List Call) (k : ℕ) (c : Carried) (l : Load) : Type 0 where
  pub asked : slice_get calls k ≡ Some (Asks (Some c))
  pub load : c.load ≡ Some l
  pub word : ℕ
  pub sent : c.word ≡ Some word

-- the cells of outputs that calls answered
abbrev pub cells_in : Call → List AnsweredCell
cells_in (Asks (Some c)) = answered_by c
cells_in (Asks None) = []
cells_in (Turns plans t) = []
cells_in (Meets loads) = []

abbrev pub cells_of : List Call → List AnsweredCell
cells_of calls = flat_map cells_in calls

-- two words of one source that a transmitter sends are as far apart as the plan in force at the second asks
abbrev pub WordsAreApartByCalls : Type 0
WordsAreApartByCalls =
    (g : ℕ) (p : SlotTable) (s : GroupState) (calls : List Call) (j k : ℕ) (c d : Carried) (l m : Load) (output : Placed)
    → AreLawful g p s calls → j < k → SendsAt calls j c l → SendsAt calls k d m → l.source ≡ m.source
    → output_due (standing_at g p s calls k) ≡ Some output → c.slot + output.limits.spacing ≤ d.slot

-- An accepted word is known by its source and its number. It goes out only if it did so fewer times before, under any
-- plans, than the plan in force allows.
abbrev pub HoldsAreKeptByCalls : Type 0
HoldsAreKeptByCalls =
    (g : ℕ) (p : SlotTable) (s : GroupState) (calls : List Call) (k : ℕ) (d : Carried) (m : Load) (output : Placed) (hold : ℕ)
    → AreLawful g p s calls → SendsAt calls k d m → output_due (standing_at g p s calls k) ≡ Some output
    → output.limits.hold ≡ Some hold → times_sent (cells_of (take k calls)) m.source m.count < hold

-- neither the output's hold nor its spacing keeps the load's word back in this cell
pub record MayGoOut (calls : List Call) (k : ℕ) (output : Placed) (d : Carried) (m : Load) : Type 0 where
  pub held : (hold : ℕ) → output.limits.hold ≡ Some hold → times_sent (cells_of (take k calls)) m.source m.count < hold
  pub apart : (j : ℕ) (c : Carried) (l : Load) → j < k → SendsAt calls j c l → l.source ≡ m.source → c.slot + output.limits.spacing ≤ d.slot

-- then it goes out: what the load found is what is sent
abbrev pub OtherWordsGoOut : Type 0
OtherWordsGoOut =
    (g : ℕ) (p : SlotTable) (s : GroupState) (calls : List Call) (k : ℕ) (d : Carried) (m : Load) (output : Placed)
    → s.earlier ≡ [] → AreLawful g p s calls → slice_get calls k ≡ Some (Asks (Some d)) → d.load ≡ Some m
    → output_due (standing_at g p s calls k) ≡ Some output → MayGoOut calls k output d m → d.word ≡ m.word

-- ---- cells that spacing leaves empty

-- the slot table in force at this place
abbrev pub table_at : ℕ → SlotTable → GroupState → List Call → ℕ → SlotTable
table_at g p s calls k = (standing_at g p s calls k).frame.table

-- at this place a cell of the output is answered
pub record AnswersAt (g : ℕ) (p : SlotTable) (s : GroupState) (calls : List Call) (k : ℕ) (output : Placed) (c : Carried) : Type 0 where
  pub asked : slice_get calls k ≡ Some (Asks (Some c))
  pub due : output_due (standing_at g p s calls k) ≡ Some output

-- the cell that is answered there has no word because of the spacing of its output
abbrev pub IsTooCloseAt : ℕ → SlotTable → GroupState → List Call → ℕ → Placed → Carried → Type 0
IsTooCloseAt g p s calls k output c = is_too_close (standing_at g p s calls k).earlier c.slot output.source output.limits.spacing ≡ true

-- from one place up to another one slot table is in force
abbrev pub HasOneTable : ℕ → SlotTable → GroupState → List Call → ℕ → ℕ → Type 0
HasOneTable g p s calls j k = (i : ℕ) → j ≤ i → i ≤ k → table_at g p s calls i ≡ table_at g p s calls k

-- while one slot table is in force, two cells of one source are as far apart as it asks
abbrev pub CellsOfOneTableAreApart : Type 0
CellsOfOneTableAreApart =
    (g : ℕ) (p : SlotTable) (s : GroupState) (calls : List Call) (j k : ℕ) (earlier now : Placed) (c d : Carried)
    → AreLawful g p s calls → j < k → AnswersAt g p s calls j earlier c → AnswersAt g p s calls k now d → earlier.source ≡ now.source
    → IsSpacedTable (table_at g p s calls k) → HasOneTable g p s calls j k → c.slot + now.limits.spacing ≤ d.slot

-- before a cell that is empty because of the spacing there is none of its source since the slot table changed
abbrev pub EmptyCellsAreFirstByCalls : Type 0
EmptyCellsAreFirstByCalls =
    (g : ℕ) (p : SlotTable) (s : GroupState) (calls : List Call) (i k : ℕ) (earlier now : Placed) (c d : Carried)
    → s.earlier ≡ [] → AreLawful g p s calls → i < k → AnswersAt g p s calls i earlier c → AnswersAt g p s calls k now d
    → earlier.source ≡ now.source → IsSpacedTable (table_at g p s calls k) → IsTooCloseAt g p s calls k now d → ¬ (HasOneTable g p s calls i k)

-- before the slot table changes no cell is empty because of the spacing
abbrev pub FirstTableEmptiesNone : Type 0
FirstTableEmptiesNone =
    (g : ℕ) (p : SlotTable) (s : GroupState) (calls : List Call) (k : ℕ) (now : Placed) (d : Carried)
    → s.earlier ≡ [] → AreLawful g p s calls → AnswersAt g p s calls k now d → IsSpacedTable (table_at g p s calls k)
    → HasOneTable g p s calls 0 k → ¬ (IsTooCloseAt g p s calls k now d)

-- each slot table of the plan keeps to the spacings of its outputs
abbrev pub IsSpacedPlan : PlanTable → Type 0
IsSpacedPlan q = AllByRecursion IsSpacedTable (groups_of q)

-- if the plans that were seen keep to their spacings, and so do the tables that the group began with, so does the
-- table in force at each place
abbrev pub TablesInForceAreSpaced : Type 0
TablesInForceAreSpaced =
    (g : ℕ) (p : SlotTable) (s : GroupState) (calls : List Call) (k : ℕ)
    → AreLawful g p s calls → IsSpacedTable p → IsSpacedTable s.frame.table → AllByRecursion IsSpacedPlan (state_after g p s calls).seen
    → IsSpacedTable (table_at g p s calls k)
