-- What a station of two receivers and a group did on threads, as one list of events of the machine (vocabulary of contracts).
use Rattle.std.specs.Prelude.{◌≡◌, ◌-◌, ◌^◌, ◌++◌, ◌∷◌, [], ℕ, zero, suc, Bool, true, List, Option, ◌<◌, length}
use Rattle.std.specs.List.{AllByRecursion}
use Rattle.a429_equipment.specs.declared.loads.Load.{Load}
use Rattle.a429_equipment.specs.TableRecord.{TableRecord}
use Rattle.a429_equipment.specs.Agreement.{Agrees}
use Rattle.a429_equipment.specs.SameStation.{same_station}
use Rattle.a429_equipment.specs.Receiving.{IsReceived, accepted_after}
use Rattle.a429_slots.specs.Tables.{PlanTable}
use Rattle.a429_slots.specs.Planned.{IsPlanOf}
use Rattle.a429_slots.specs.Proposed.{Proposed}
use Rattle.a429_slots.specs.History.{Opening}
use Rattle.a429_board.specs.Lists.{Planning, Watched}
use Rattle.a429_values.specs.Ends.{Place, ReceiverEnd}
use Rattle.a429_workers.specs.Calls.{Call, Meets}
use Rattle.a429_workers.specs.Runs.{ArePublished, CallsAreOneRun, IsWired, plans_of}
use Rattle.a429_workers.specs.Receives.{after_words}
use Rattle.a429_workers.specs.Sends.{HasSent, sent_in, with_cells}
use Rattle.a429_workers.specs.Transmitting.{BeginsWith, GoesOnByCalls, IsKnownPlan, Transmitting}
use Rattle.a429_workers.specs.declared.cells.Sent.{Sent}

-- the words that came in at the two receivers
abbrev pub two : List ℕ → List ℕ → ℕ → List ℕ
two first second zero = first
two first second (suc zero) = second
two first second (suc (suc r)) = []

-- what each receiver of the station accepts of the words that come in there, of no source more than 41 bits can count
-- (profile: docs/RULES.md, Limits)
abbrev pub heard_of : TableRecord → (ℕ → List ℕ) → ℕ → List (ℕ × ℕ)
heard_of t words r = accepted_after (2 ^ 41 - 1) t r [] (words r)

-- the station begins with this plan, in slot 0
abbrev pub opening : TableRecord → PlanTable → Opening
opening t plan = record { proposal = record { station = t; plan = plan }; first = 0 }

-- These words came in, and a sink of the first group took cells. That was one run of the machine: its arrivals are what the receivers
-- accept of the words, and the cells that it answers are those that the sink took.
pub record IsOneRun (t : TableRecord) (words : ℕ → List ℕ) (before after : Option (List Sent)) : Type 0 where
  pub plan : PlanTable
  pub planned : IsPlanOf t plan
  pub later : List Proposed
  pub calls : List Call
  pub run : CallsAreOneRun 41 (opening t plan) 0 later calls (heard_of t words)
  pub cells : after ≡ with_cells before (sent_in calls)

-- two lines gave words, and a sink took cells: that was one run
pub record IsRunOver {L : Type 0} {B : Type 0} (given : L → List ℕ) (taken : B → Option (List Sent)) (t : TableRecord) (first first' second second' : L) (sink sink' : B) : Type 0 where
  pub one : List ℕ
  pub other : List ℕ
  pub gave_one : given first' ≡ given first ++ one
  pub gave_other : given second' ≡ given second ++ other
  pub run : IsOneRun t (two one other) (taken sink) (taken sink')

-- ---- pieces of it

-- a receiver that accepted nothing yet
abbrev pub fresh : Place → ℕ → ReceiverEnd
fresh at number = record { at = at; number = number; limit = 2 ^ 41 - 1; accepted = [] }

-- the line gave words, and if it came to its end the receiver took them all
pub record HasHeard {L : Type 0} (given : L → List ℕ) (line rest : L) (old new : ReceiverEnd) (done : Bool) : Type 0 where
  pub words : List ℕ
  pub gave : given rest ≡ given line ++ words
  pub taken : done ≡ true → new ≡ after_words old words

-- the transmitter answered cells and changes, and if they are all that was asked for the sink took the cells
pub record HasSentAll (old new : Transmitting) (before after : Option (List Sent)) (done : Bool) : Type 0 where
  pub calls : List Call
  pub sent : done ≡ true → HasSent old new before after calls []

-- a planner that published nothing yet can publish this plan: both are plans of one station
pub record CanPublish (t next : TableRecord) (p : Planning) (plan : PlanTable) : Type 0 where
  pub first : p.list ≡ p.last ∷ []
  pub planned : IsPlanOf t p.last
  pub next_planned : IsPlanOf next plan
  pub same : same_station t next ≡ true

-- a planner's list: the opening plan and those published after it, all of the station
pub record AreShown (o : Opening) (list : List PlanTable) : Type 0 where
  pub later : List Proposed
  pub published : ArePublished o later
  pub plans : list ≡ plans_of o later
  pub known : AllByRecursion (IsKnownPlan o.proposal.station) list

-- a transmitter met two receivers, and was given this list of plans
pub record HasMetTwo (old new : Transmitting) (first second : ReceiverEnd) (list : List PlanTable) : Type 0 where
  pub one : List Load
  pub other : List Load
  pub stands : GoesOnByCalls old (Meets one ∷ Meets other ∷ []) new
  pub told : new.watcher.list ≡ list
  pub station : new.transmitter.at ≡ old.transmitter.at
  pub agrees_one : Agrees old.transmitter.at.station first.number first.accepted new.transmitter.loads
  pub agrees_other : Agrees old.transmitter.at.station second.number second.accepted new.transmitter.loads
  pub received_one : IsReceived first.limit first.at.station first.number first.accepted
  pub received_other : IsReceived second.limit second.at.station second.number second.accepted

-- Two receivers of a station that has no other took words, from nothing accepted on. The first group's transmitter
-- began by the opening plan of its watcher at slot 0 and with no load. It sent frames, and then met both receivers and
-- was given the planner's list. So it was one run.
abbrev pub EndsRunOnce : Type 0
EndsRunOnce =
    (at : Place) (w : Watched) (list : List PlanTable) (begun sent done : Transmitting) (first second : List ℕ) (calls : List Call) (before after : Option (List Sent))
    → IsWired at.station → length at.station.receivers ≡ 2 → 0 < length at.station.groups → IsPlanOf at.station w.opened
    → BeginsWith (record { at = at; number = 0; loads = [] }) w 0 begun → begun.transmitter.at ≡ at → HasSent begun sent before after calls []
    → AreShown (opening at.station w.opened) list → HasMetTwo sent done (after_words (fresh at 0) first) (after_words (fresh at 1) second) list
    → IsOneRun at.station (two first second) before after
