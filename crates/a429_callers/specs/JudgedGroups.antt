-- A group of a box that keeps to the plan of its table, and logs by which it is judged: of what came in, and of what it sent
-- (profile: docs/FORMATS.md, Output of `judge`).
use Rattle.std.specs.Prelude.{◌≡◌, ◌==◌, ◌&&◌, ◌+◌, ◌*◌, ◌≤◌, ℕ, Bool, List, [], Some, filter, is_some, length, map, nat_le, option_and_then, slice_get}
use Rattle.std.specs.List.{AllZip, zip}
use Rattle.std.specs.List.Sorted.{IsNonDecreasingBy}
use Rattle.std.specs.Option.{option_map_or}
use Rattle.a429_equipment.specs.declared.rows.OutputRow.{OutputRow}
use Rattle.a429_equipment.specs.declared.rows.SourceRow.{SourceRow}
use Rattle.a429_equipment.specs.Sound.{IsSound}
use Rattle.a429_equipment.specs.TableRecord.{TableRecord}
use Rattle.a429_judge.specs.declared.duties.Duty.{Duty}
use Rattle.a429_judge.specs.declared.duties.Sent.{Sent}
use Rattle.a429_judge.specs.declared.facts.Facts.{Facts}
use Rattle.a429_judge.specs.declared.facts.Mark.{Mark}
use Rattle.a429_judge.specs.Judgements.{found_at}
use Rattle.a429_judge.specs.Laws.{AreNear, ArePlanned, IsPieceOf}
use Rattle.a429_judge.specs.Machine.{known_by, moment_at}
use Rattle.a429_judge.specs.Recordings.{Recording, accepted_of, foreign_of, overlapping, span_of}
use Rattle.a429_slots.specs.History.{AnsweredCell, accepted_by, answered_cells}
use Rattle.a429_slots.specs.Planned.{IsPlanOf, rated_outputs}
use Rattle.a429_slots.specs.Tables.{Placed, PlanTable, SlotTable, groups_of, outputs_of}
use Rattle.a429_core.specs.Histories.{GroupHistory, IsCellAt}
use Rattle.a429_core.specs.Latency.{IsPlannedHistory, next_slot_on, period_of}
use Rattle.a429_callers.specs.SlotBoxes.{KeepsOpeningPlan, known_at}

-- ---- outputs, as they are judged

-- what is known of an output: the rate of its group, the tolerance, its period and its hold by the plan, and the interval of its row
abbrev pub facts_of : ℕ → ℕ → OutputRow → Placed → Facts
facts_of rate tolerance row x =
    record { rate = rate; period = period_of x.place; least = row.min_us; greatest = row.max_us; hold = x.limits.hold; tolerance = tolerance }

-- the history of a group, the rate of its buses, the rows of its outputs, and the tolerance in microseconds
pub record JudgedGroup : Type 0 where
  pub history : GroupHistory
  pub rate : ℕ
  pub rows : List OutputRow
  pub tolerance : ℕ

abbrev pub station_of : JudgedGroup → TableRecord
station_of j = j.history.opening.proposal.station

abbrev pub duty_by : List SourceRow → JudgedGroup → OutputRow × Placed → Duty
duty_by sources j z = record {
  group = j.history.group;
  source = z.1.source;
  label = option_map_or (λ s. s.label) (slice_get sources z.1.source) 0;
  sdi = option_and_then (λ s. s.sdi) (slice_get sources z.1.source);
  bus = z.1.place.bus;
  facts = facts_of j.rate j.tolerance z.0 z.1;
}

-- an output of the group, by its row and its place in the plan, and all its outputs
abbrev pub duty_in : JudgedGroup → OutputRow × Placed → Duty
duty_in j z = duty_by (station_of j).sources j z

abbrev pub duties_in : JudgedGroup → List Duty
duties_in j = map (duty_in j) (zip j.rows (outputs_of j.history.table))

-- the history is one by the plan of its table, which stays in force
pub record KeepsPlan (j : JudgedGroup) : Type 0 where
  pub sound : IsSound (station_of j)
  pub planned : IsPlannedHistory j.history
  pub kept : KeepsOpeningPlan j.history
  pub rated : slice_get (rated_outputs (station_of j)) j.history.group ≡ Some (j.rate, j.rows)

-- ---- what the logs state, by times in units of 1 / (rate * finer) microseconds

-- When the slots of the group begin, and how much later a send is recorded, in such units. How wrong a time of the logs and a period may be. All
-- words that each source accepted, and when. The log has the sends from slot `from` on.
pub record Timing : Type 0 where
  pub finer : ℕ
  pub begin : ℕ → ℕ
  pub delay : ℕ
  pub wrong : ℕ
  pub drift : ℕ
  pub words : ℕ → List Mark
  pub moments : ℕ → List ℕ
  pub from : ℕ

-- a cell is in the log: it has a word, and its slot is not before that one
abbrev pub is_logged : Timing → AnsweredCell → Bool
is_logged c cell = is_some cell.word && nat_le c.from cell.slot

-- a cell with a word is recorded: its word, its bus if the log names buses, and its time, which may be wrong
pub record IsRecordedAs (j : JudgedGroup) (c : Timing) (cell : AnsweredCell) (w : Sent) : Type 0 where
  pub word : cell.word ≡ Some w.mark.raw
  pub bus : (number bus : ℕ) (x : Placed) → slice_get (outputs_of j.history.table) number ≡ Some x → x.source ≡ cell.source → w.bus ≡ Some bus → bus ≡ x.place.bus
  pub early : c.begin cell.slot + c.delay ≤ w.mark.time * (j.rate * c.finer) + c.wrong
  pub late : w.mark.time * (j.rate * c.finer) ≤ c.begin cell.slot + c.delay + c.wrong

-- The slots of the group do not go back, and those that are a period of an output apart are so in time, up to the drift. What may be wrong is
-- within the tolerance.
pub record AreTimed (j : JudgedGroup) (c : Timing) : Type 0 where
  pub rise : (slot : ℕ) → c.begin slot ≤ c.begin (slot + 1)
  pub near : (number : ℕ) (row : OutputRow) (x : Placed) → slice_get j.rows number ≡ Some row → slice_get (outputs_of j.history.table) number ≡ Some x
      → AreNear (facts_of j.rate j.tolerance row x) c.finer c.wrong c.drift
  pub soonest : (number slot : ℕ) (x : Placed) → slice_get (outputs_of j.history.table) number ≡ Some x
      → c.begin slot + period_of x.place * 36000000 * c.finer ≤ c.begin (slot + period_of x.place) + c.drift
  pub latest : (number slot : ℕ) (x : Placed) → slice_get (outputs_of j.history.table) number ≡ Some x
      → c.begin (slot + period_of x.place) ≤ c.begin slot + period_of x.place * 36000000 * c.finer + c.drift

-- the logs are those of the history
pub record IsRecordedRun (C : ℕ) (j : JudgedGroup) (c : Timing) (r : Recording) : Type 0 where
  pub timed : AreTimed j c
  pub short : c.delay ≤ 36000000 * c.finer
  -- these are the words that were accepted, of which one log has a piece
  pub heard : (source : ℕ) → map (λ a. a.raw) (c.words source) ≡ accepted_by C j.history.opening source j.history.events
  pub many : (source : ℕ) → length (c.moments source) ≡ length (c.words source)
  pub rise : (source : ℕ) → IsNonDecreasingBy (λ (m : ℕ). m) (c.moments source)
  pub piece : (source : ℕ) → IsPieceOf (span_of j.history.group r).heard (j.rate * c.finer) c.wrong (c.words source) (moment_at (c.moments source)) (accepted_of source r.heard)
  -- a cell is asked for when the words are accepted that came in by the beginning of its slot
  pub asked : (k : ℕ) (x : Placed) (slot : ℕ) → IsCellAt j.history k x slot → known_at C j.history x k ≡ known_by (c.moments x.source) (c.begin slot)
  -- the other log has those of the group's cells that are in it, and no other words of the group
  pub sent : AllZip (IsRecordedAs j c) (filter (is_logged c) (answered_cells C j.history.opening j.history.group j.history.table j.history.events))
      (filter (λ w. w.group == j.history.group) r.sent)
  -- it begins with a slot of the group, by the first word of the group
  pub begun : j.history.opening.first ≤ c.from
  pub opens : c.begin c.from + c.delay ≤ (span_of j.history.group r).first * (j.rate * c.finer) + c.wrong
  -- the group goes on as long as the logs: they end before a send in its next slot would surely be recorded
  pub ends : (number : ℕ) (x : Placed) → slice_get (outputs_of j.history.table) number ≡ Some x
      → (span_of j.history.group r).last * (j.rate * c.finer) ≤ c.begin (next_slot_on j.history (length j.history.events) x.place.bus) + c.delay + c.wrong

-- ---- laws

-- of an output by the plan of its table, the period is within its interval, and it may send each word once at least
abbrev pub OutputsArePlanned : Type 0
OutputsArePlanned =
    (e : TableRecord) (p : PlanTable) (g rate : ℕ) (rows : List OutputRow) (t : SlotTable) (number tolerance : ℕ) (row : OutputRow) (x : Placed)
    → IsSound e → IsPlanOf e p → slice_get (rated_outputs e) g ≡ Some (rate, rows) → slice_get (groups_of p) g ≡ Some t
    → slice_get rows number ≡ Some row → slice_get (outputs_of t) number ≡ Some x → ArePlanned (facts_of rate tolerance row x)

-- by such logs nothing is found at an output that is not alike another
abbrev pub PlannedGroupsHaveNoFinding : Type 0
PlannedGroupsHaveNoFinding =
    (C : ℕ) (j : JudgedGroup) (c : Timing) (r : Recording) (number : ℕ) (row : OutputRow) (x : Placed) → KeepsPlan j → IsRecordedRun C j c r
    → slice_get j.rows number ≡ Some row → slice_get (outputs_of j.history.table) number ≡ Some x → overlapping (duty_in j (row, x)) (duties_in j) ≤ 1
    → found_at (duties_in j) (duty_in j (row, x)) r ≡ []

-- and no word of the group is foreign: each is of one of its outputs
abbrev pub PlannedGroupsSendNoneForeign : Type 0
PlannedGroupsSendNoneForeign =
    (C : ℕ) (j : JudgedGroup) (c : Timing) (r : Recording) → KeepsPlan j → IsRecordedRun C j c r → foreign_of (duties_in j) j.history.group r.sent ≡ []
