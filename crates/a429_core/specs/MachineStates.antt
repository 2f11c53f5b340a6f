-- What a state is: what contracts see of it, and the histories that it stands for (vocabulary of contracts).
use Rattle.std.specs.Prelude.{◌≡◌, ◌≤◌, ◌+◌, ◌-◌, ◌/◌, ◌^◌, ◌++◌, ℕ, List, Option, Some, Result, Ok, ⊤, length, slice_get, option_and_then, option_map}
use Rattle.a429_equipment.specs.declared.rows.SourceRow.{SourceRow}
use Rattle.a429_equipment.specs.TableRecord.{TableRecord}
use Rattle.a429_equipment.specs.Arrivals.{SourcesAreApart}
use Rattle.a429_slots.specs.Tables.{SlotTable, PlanTable, groups_of, frame_of, buses_of}
use Rattle.a429_slots.specs.Recalling.{Recent, Recalls}
use Rattle.a429_slots.specs.Proposed.{Proposed}
use Rattle.a429_slots.specs.Events.{Event, Arrive, Cell, Frame, Publish}
use Rattle.a429_slots.specs.History.{Opening, OpensWith, current, cells_since, accepted_in, accepted_by, answered_cells, last_of, newest_number, newest_plan}
use Rattle.a429_core.specs.declared.sources.Kept.{Kept}
use Rattle.a429_slots.specs.declared.answers.Answer.{Answer}
use Rattle.a429_slots.specs.Answers.{answer, answers}
use Rattle.a429_slots.specs.FrameStates.{FrameState, frame_state_of}

-- What a state keeps: of each source how many words it accepted and the last of them; of each group its place in its
-- frame and what it sent last of each source; the newest plan.
pub record MachineState : Type 0 where
  pub station : TableRecord
  pub sources : List Kept
  pub groups : List FrameState
  pub sends : List (List Recent)
  pub newest : PlanTable

-- ---- the histories that a state stands for

-- a proposal has a slot table for each group
abbrev pub HasTableForEach : Proposed → Type 0
HasTableForEach q = length (groups_of q.plan) ≡ length q.station.groups

abbrev pub IsWholeEvent : Event → Type 0
IsWholeEvent (Arrive r raw) = ⊤
IsWholeEvent (Cell g) = ⊤
IsWholeEvent (Frame g) = ⊤
IsWholeEvent (Publish q) = HasTableForEach q

-- what is kept of a source's accepted words
abbrev pub kept_of : List ℕ → Kept
kept_of words = record { count = length words; last = last_of words }

-- what is kept of a group's sends of a source
abbrev pub recent_at : List (List Recent) → ℕ → ℕ → Option Recent
recent_at sends g i = option_and_then (λ rs. slice_get rs i) (slice_get sends g)

-- This is kept of the cells that group g has answered, for source i. Its word is at most the newest one, and its slot
-- is at most that of the group's next cell.
pub record Remembers (C : ℕ) (o : Opening) (E : List Event) (g : ℕ) (p : SlotTable) (i : ℕ) (x : Option Recent) : Type 0 where
  pub recent : Recent
  pub there : x ≡ Some recent
  pub recalls : Recalls (answered_cells C o g p E) i recent
  pub counted : recent.count ≤ length (accepted_by C o i E)
  pub passed : recent.slot ≤ (current o g p E).first + cells_since g (current o g p E) / buses_of (current o g p E).table
  pub in_frame : recent.slot ≤ (current o g p E).first + frame_of (current o g p E).table

-- this is what is kept of the history E from this opening
pub record StandsForHistory (C : ℕ) (o : Opening) (E : List Event) (v : MachineState) : Type 0 where
  pub apart : SourcesAreApart o.proposal.station.sources
  pub whole : HasTableForEach o.proposal
  pub station : v.station ≡ o.proposal.station
  pub sources : (i : ℕ) → slice_get v.sources i ≡ option_map (λ s. kept_of (accepted_in C o s E)) (slice_get o.proposal.station.sources i)
  pub groups : (g : ℕ) → slice_get v.groups g ≡ option_map (λ p. frame_state_of g (current o g p E)) (slice_get (groups_of o.proposal.plan) g)
  pub sends : (g : ℕ) (p : SlotTable) → OpensWith o g p → (i : ℕ) (s : SourceRow) → slice_get o.proposal.station.sources i ≡ Some s
      → Remembers C o E g p i (recent_at v.sends g i)
  pub size : length v.groups ≡ length (groups_of o.proposal.plan)
  pub number : v.newest.number ≡ newest_number o E
  pub newest : groups_of v.newest ≡ groups_of (newest_plan o E)
  pub as_many : length (groups_of v.newest) ≡ length (groups_of o.proposal.plan)

-- for every history that the state stands for, this is the answer to an event that comes after it
abbrev pub AnswersEvent : {E : Type 0} → ℕ → MachineState → Event → Result Answer E → Type 0
AnswersEvent C v event given = (o : Opening) (E : List Event) → StandsForHistory C o E v → given ≡ Ok (answer C o E event)

-- for every history that the state stands for, these are the answers to events that come after it
abbrev pub AnswerEvents : ℕ → MachineState → List Event → List Answer → Type 0
AnswerEvents C v events given = (o : Opening) (E : List Event) → StandsForHistory C o E v → given ≡ answers C o E events

-- for every history that the state stands for, the next state stands for that history with these events at its end
abbrev pub GoesOnByEvents : ℕ → MachineState → List Event → MachineState → Type 0
GoesOnByEvents C before events after = (o : Opening) (E : List Event) → StandsForHistory C o E before → StandsForHistory C o (E ++ events) after

-- the limit is the greatest count of C bits; words are kept of each source, and each group is in a frame and has a
-- newest table
abbrev pub KeepsAll : ℕ → ℕ → TableRecord → List Kept → List FrameState → PlanTable → Type 0
KeepsAll C limit station sources groups newest =
    (limit ≡ 2 ^ C - 1) × (length sources ≡ length station.sources)
    × (length groups ≡ length (groups_of newest)) × (length groups ≡ length station.groups)
