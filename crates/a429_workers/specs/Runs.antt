-- One run: the events of a station whose cells and frames the machine answers as a group's transmitter did (vocabulary of contracts).
use Rattle.std.specs.Prelude.{◌≡◌, ◌+◌, ◌==◌, ◌<◌, ◌≤◌, ◌-◌, ◌^◌, ◌∷◌, [], ℕ, Bool, true, false, List, Option, Some, None, IsTrue, map, filter, filter_map, length, slice_get, take}
use Rattle.std.specs.List.{AllByRecursion, zip}
use mathlib.Core.List.{IsPrefix}
use Rattle.a429_equipment.specs.TableRecord.{TableRecord}
use Rattle.a429_equipment.specs.declared.loads.Load.{Load}
use Rattle.a429_equipment.specs.Arrivals.{AcceptApart}
use Rattle.a429_equipment.specs.Receiving.{IsReceived}
use Rattle.a429_equipment.specs.Agreement.{Agrees}
use Rattle.a429_equipment.specs.SameStation.{same_station}
use Rattle.a429_equipment.specs.Sound.{OfEach}
use Rattle.a429_slots.specs.Tables.{SlotTable, PlanTable}
use Rattle.a429_slots.specs.Proposed.{Proposed}
use Rattle.a429_slots.specs.Events.{Event, Arrive, Cell, Frame, Publish}
use Rattle.a429_slots.specs.History.{Opening, OpensWith, accepted_by, latest_by}
use Rattle.a429_slots.specs.GoingOn.{stands_after}
use Rattle.a429_slots.specs.declared.answers.Answer.{Answer}
use Rattle.a429_slots.specs.declared.answers.Answer.TheVariants.{Accepted, Sent, Changed, Published, Refused}
use Rattle.a429_slots.specs.declared.answers.Refusal.TheVariants.{FrameEnd, MidFrame, SlotsSpent}
use Rattle.a429_slots.specs.Answers.{answers}
use Rattle.a429_workers.specs.Calls.{Call, Carried, Turn, Asks, Turns, Meets, Takes, StaysMid, StaysSpent, GroupState, AreLawful, before_calls, state_after, loads_of}

-- ---- what is given

-- of a station: no word is for two sources, and each source is of one of its receivers
pub record IsWired (t : TableRecord) : Type 0 where
  pub apart : AcceptApart t
  pub received : OfEach (λ s. s.receiver < length t.receivers) t.sources

-- what each receiver of a station accepted, as pairs of a source's number and a word, of no source more than C bits can count
pub record AreHeard (C : ℕ) (t : TableRecord) (heard : ℕ → List (ℕ × ℕ)) : Type 0 where
  pub received : (r : ℕ) → r < length t.receivers → IsReceived (2 ^ C - 1) t r (heard r)
  pub others : (r : ℕ) → length t.receivers ≤ r → heard r ≡ []

-- proposals that were published after the opening one: of the opening station, numbered on from it in 64 bits
pub record ArePublished (o : Opening) (later : List Proposed) : Type 0 where
  pub of_station : AllByRecursion (λ q. IsTrue (same_station o.proposal.station q.station)) later
  pub numbered : (k : ℕ) (q : Proposed) → slice_get later k ≡ Some q → q.plan.number ≡ o.proposal.plan.number + (k + 1)
  pub countable : o.proposal.plan.number + length later ≤ 2 ^ 64 - 1

-- the opening plan and those published after it
abbrev pub plans_of : Opening → List Proposed → List PlanTable
plans_of o later = o.proposal.plan ∷ map (λ q. q.plan) later

-- the state of group g after these calls of its transmitter, from the opening on
abbrev pub led_to : Opening → ℕ → SlotTable → List Call → GroupState
led_to o g p calls = state_after g p (before_calls o.proposal.plan p o.first) calls

-- Lawful calls of a transmitter of group g, which saw no other plans than the published ones, and whose loads agree with what each receiver
-- of its station accepted.
pub record IsWorking (C : ℕ) (o : Opening) (g : ℕ) (p : SlotTable) (later : List Proposed) (calls : List Call) (heard : ℕ → List (ℕ × ℕ)) : Type 0 where
  pub wired : IsWired o.proposal.station
  pub opens : OpensWith o g p
  pub published : ArePublished o later
  pub lawful : AreLawful g p (before_calls o.proposal.plan p o.first) calls
  pub seen : IsPrefix (led_to o g p calls).seen (plans_of o later)
  pub known : AllByRecursion (λ l. l.source < length o.proposal.station.sources) (loads_of calls)
  pub accepted : AreHeard C o.proposal.station heard
  pub agree : (r : ℕ) → r < length o.proposal.station.receivers → Agrees o.proposal.station r (heard r) (loads_of calls)

-- ---- what follows

-- events, each with the machine's answer
abbrev pub answered : ℕ → Opening → List Event → List (Event × Answer)
answered C o E = zip E (answers C o [] E)

abbrev pub is_sending : Event → Bool
is_sending (Cell g) = true
is_sending (Frame g) = true
is_sending (Arrive r raw) = false
is_sending (Publish q) = false

abbrev pub comes_to : ℕ → Event → Bool
comes_to r (Arrive k raw) = k == r
comes_to r (Cell g) = false
comes_to r (Frame g) = false
comes_to r (Publish q) = false

abbrev pub is_publish : Event → Bool
is_publish (Publish q) = true
is_publish (Arrive r raw) = false
is_publish (Cell g) = false
is_publish (Frame g) = false

abbrev pub turn_answer : Turn → Answer
turn_answer (Takes n) = Changed n
turn_answer StaysMid = Refused MidFrame
turn_answer StaysSpent = Refused SlotsSpent

-- the event that a call of the group's transmitter is, with its answer; a meeting is none
abbrev pub event_of : ℕ → Call → Option (Event × Answer)
event_of g (Asks (Some c)) = Some (Cell g, Sent c.bus c.slot c.word)
event_of g (Asks None) = Some (Cell g, Refused FrameEnd)
event_of g (Turns plans t) = Some (Frame g, turn_answer t)
event_of g (Meets loads) = None

-- The place in a run to which some calls lead, the first of the transmitter's. The events before it have exactly the
-- cells and frames of these calls, and lead the group to the frame that the calls led to. Of each source that was
-- loaded, they have at least as many accepted words as each load counted.
pub record HavePlace (C : ℕ) (o : Opening) (g : ℕ) (p : SlotTable) (calls : List Call) (E : List Event) : Type 0 where
  pub place : ℕ
  pub within : place ≤ length E
  pub sends : filter (λ x. is_sending x.0) (answered C o (take place E)) ≡ filter_map (event_of g) calls
  pub frame : stands_after o g p (take place E) ≡ (led_to o g p calls).frame
  pub loaded : AllByRecursion (λ l. l.count ≤ length (accepted_by C o l.source (take place E))) (loads_of calls)

-- The place in a run at which the group is asked for a cell of an output, after some calls: by then the source has accepted as many words as the
-- load for the cell counted, and the word that it found is the last of them.
pub record HasCellPlace (C : ℕ) (o : Opening) (g : ℕ) (calls : List Call) (l : Load) (E : List Event) : Type 0 where
  pub place : ℕ
  pub asked : slice_get E place ≡ Some (Cell g)
  pub sends : filter (λ x. is_sending x.0) (answered C o (take place E)) ≡ filter_map (event_of g) calls
  pub latest : latest_by C o l.source (take place E) ≡ (l.count, l.word)

-- The cells and frames of the events, with the machine's answers, are the calls with theirs. The arrivals at each
-- receiver are the words that it accepted, and are accepted. The publications are the proposals, under their numbers.
-- Each list is in its order, and there are no other events. A word that was loaded in a call comes in before the events
-- of the calls after it. For a cell, no later word of the source comes in before the cell's own event.
pub record IsRun (C : ℕ) (o : Opening) (g : ℕ) (later : List Proposed) (calls : List Call) (heard : ℕ → List (ℕ × ℕ)) (E : List Event) : Type 0 where
  pub sends : filter (λ x. is_sending x.0) (answered C o E) ≡ filter_map (event_of g) calls
  pub arrivals : (r : ℕ) → filter (λ x. comes_to r x.0) (answered C o E) ≡ map (λ a. (Arrive r a.1, Accepted a.0)) (heard r)
  pub publications : filter (λ x. is_publish x.0) (answered C o E) ≡ map (λ q. (Publish q, Published q.plan.number)) later
  pub places : (p : SlotTable) (n : ℕ) → OpensWith o g p → HavePlace C o g p (take n calls) E
  pub cells : (n : ℕ) (c : Carried) (l : Load) → slice_get calls n ≡ Some (Asks (Some c)) → c.load ≡ Some l → HasCellPlace C o g (take n calls) l E

-- what was done is one run
pub record CallsAreOneRun (C : ℕ) (o : Opening) (g : ℕ) (later : List Proposed) (calls : List Call) (heard : ℕ → List (ℕ × ℕ)) : Type 0 where
  pub events : List Event
  pub is : IsRun C o g later calls heard events

-- any lawful calls of a group's transmitter are one run with what the receivers accepted and the plans that were
-- published
abbrev pub WorkIsOneRun : Type 0
WorkIsOneRun =
    (C : ℕ) (o : Opening) (g : ℕ) (p : SlotTable) (later : List Proposed) (calls : List Call) (heard : ℕ → List (ℕ × ℕ))
    → IsWorking C o g p later calls heard → CallsAreOneRun C o g later calls heard
