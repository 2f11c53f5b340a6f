-- What all workers of a run did, as the premises of one run.
use Rattle.std.proofs.Common.{◌≡◌, ◌∙◌, ℕ, ◌+◌, ◌*◌, ◌<◌, ◌≤◌, ◌^◌, zero, suc, List, [], ◌∷◌, ◌++◌, length, map, ap, subst, sym, refl, arith, append-nil}
use Rattle.std.specs.Prelude.{◌≢◌, Option, Some, Result, Err, slice_get, count_by}
use Rattle.std.specs.List.{AllByRecursion}
use mathlib.Core.List.{IsPrefix}
use Rattle.a429_word.proofs.Lists.{all_beginning}
use Rattle.a429_equipment.specs.declared.loads.Load.{Load}
use Rattle.a429_equipment.specs.TableRecord.{TableRecord}
use Rattle.a429_equipment.specs.Agreement.{Agrees}
use Rattle.a429_slots.specs.Tables.{SlotTable, PlanTable, frame_of, groups_of}
use Rattle.a429_slots.specs.Planned.{IsPlanOf}
use Rattle.a429_slots.specs.Proposed.{Proposed}
use Rattle.a429_values.specs.Ends as ends
use Rattle.a429_board.specs.Lists.{Planning, Watched, beginner}
use Rattle.a429_workers.specs.Calls.{Call, Turns, StaysSpent, GroupState, AreLawful, IsLawful, before_calls, state_after, loads_of, after}
use Rattle.a429_workers.specs.Runs.{ArePublished, AreHeard, IsWired, IsWorking, plans_of}
use Rattle.a429_workers.specs.Transmitting.{Transmitting, Outset, BeginsWith, GoesOnByCalls, HasMade, IsKnownPlan, IsSameGroup, StandsForCalls, led_by}
use Rattle.a429_workers.specs.Sends.{AreAllSent, AreFewerSent, AreSent, AreWhole, HasSent, Sending, is_taken, sending, sent_in, totals_of}
use Rattle.a429_workers.specs.Gates.{GatePoints}
use Rattle.a429_workers.specs.declared.cells.Sent.{Sent}
use Rattle.a429_workers.specs.declared.sinks.BusSink as BusSink
use Rattle.a429_workers.specs.declared.sending.SendTotals.{SendTotals}
use Rattle.a429_workers.specs.declared.sending.SendFault.{SendFault}
use Rattle.a429_workers.specs.declared.sending.SendFault.TheVariants.{Change}
use Rattle.a429_station.specs.Course.{Course, IsSentIn, heard_in, meetings}
use Rattle.a429_station.specs.Resubmitting.{HasFewSlots, opening}
use Rattle.a429_station.specs.Working.{Emitting, HasMet, IsJoined, IsReady, meeting_of, told}
use Rattle.a429_station.proofs.Counting.{IsWithin, calls_within, not_spent}
use Rattle.a429_workers.proofs.Growing.{standing_push}
use Rattle.a429_workers.proofs.Lists.{all_get}

-- ---- a transmitter from its beginning on

-- how group g began, by this plan
abbrev pub outset : PlanTable → ℕ → SlotTable → Outset
outset opened g p = record { opened = opened; group = g; table = p; first = 0; before = [] }

-- before its first cell a transmitter stands for no call
pub stands_first : (at : ends.Place) (planner : Planning) (g : ℕ) (v : Transmitting) (p : SlotTable) → IsReady at planner g v → slice_get (groups_of planner.last) g ≡ Some p
    → StandsForCalls (outset planner.last g p) [] v
stands_first at planner g v p R there =
    let begins : BeginsWith (record { at = at; number = g; loads = [] }) (beginner planner) 0 v =
    subst (λ (w : Watched). BeginsWith (record { at = at; number = g; loads = [] }) w 0 v) R.watcher (subst (λ (x : ends.TransmitterEnd). BeginsWith x v.watcher 0 v) R.transmitter R.begins) in
    begins p there

pub same_hub : (at : ends.Place) (planner : Planning) (g : ℕ) (v w : Transmitting) → IsReady at planner g v → IsSameGroup v w → w.transmitter.at ≡ at
same_hub at planner g v w R same = same.hub ∙ ap (λ (x : ends.TransmitterEnd). x.at) R.transmitter

-- ---- a next frame is not refused

lawful_last : (g : ℕ) (p : SlotTable) (s : GroupState) (calls : List Call) (c : Call) → AreLawful g p s (calls ++ c ∷ []) → IsLawful g p (state_after g p s calls) c
lawful_last g p s [] c all = all.0
lawful_last g p s (d ∷ calls) c all = lawful_last g p (after g p s d) calls c all.1

lawful_front : (g : ℕ) (p : SlotTable) (s : GroupState) (calls : List Call) (c : Call) → AreLawful g p s (calls ++ c ∷ []) → AreLawful g p s calls
lawful_front g p s [] c all = tt
lawful_front g p s (d ∷ calls) c all = (all.0, lawful_front g p (after g p s d) calls c all.1)

-- the plans of a refused frame were seen
plans_seen : (g : ℕ) (p : SlotTable) (s : GroupState) (calls : List Call) (plans list : List PlanTable) → IsPrefix (state_after g p s (calls ++ Turns plans StaysSpent ∷ [])).seen list → IsPrefix plans list
plans_seen g p s calls plans list seen = subst (λ (x : GroupState). IsPrefix x.seen list) (standing_push g p s calls (Turns plans StaysSpent)) seen

-- the slots of a million frames can be counted
room : (n frames : ℕ) → n < frames → frames ≤ 1000000 → 0 + 8192 * n + 16384 < 2 ^ 64
room n frames less few = omega (arith, less, few)

-- calls from the first slot on, of which fewer than a million take a next frame, do not end with a refused one
calls_go_on : (g : ℕ) (p : SlotTable) (s : GroupState) (calls : List Call) (plans : List PlanTable) → frame_of p ≤ 8192 → IsWithin s 0 → AllByRecursion HasFewSlots plans
    → AreLawful g p s (calls ++ Turns plans StaysSpent ∷ []) → 0 + 8192 * count_by is_taken calls + 16384 < 2 ^ 64 → ⊥
calls_go_on g p s calls plans table first few lawful many =
    let last : IsLawful g p (state_after g p s calls) (Turns plans StaysSpent) = lawful_last g p s calls (Turns plans StaysSpent) lawful in
    not_spent g p (state_after g p s calls) plans (0 + 8192 * count_by is_taken calls) table few
    (calls_within g p s calls 0 table (lawful_front g p s calls (Turns plans StaysSpent) lawful) (all_beginning HasFewSlots (state_after g p s calls).seen plans last.0 few) first) many (sym last.1)

-- plans that are a beginning of known ones are known to the transmitter
known_there : (at : ends.Place) (v : Transmitting) (list : List PlanTable) → v.transmitter.at ≡ at → IsPrefix v.watcher.list list → AllByRecursion (IsKnownPlan at.station) list
    → AllByRecursion (IsKnownPlan v.transmitter.at.station) v.watcher.list
known_there at v list here beginning known =
    subst (λ (x : ends.Place). AllByRecursion (IsKnownPlan x.station) v.watcher.list) (sym here) (all_beginning (IsKnownPlan at.station) v.watcher.list list beginning known)

-- a group has a table
table_there : (l : List SlotTable) (g : ℕ) → g < length l → (p : SlotTable) × (slice_get l g ≡ Some p)
table_there [] g inside = absurd (omega (arith, inside))
table_there (p ∷ l) zero inside = (p, refl)
table_there (p ∷ l) (suc g) inside = table_there l g (omega (arith, inside))

module _ (g : ℕ) (opened : PlanTable) (p : SlotTable) (there : slice_get (groups_of opened) g ≡ Some p) where
  -- a transmitter that stood for no call, and sees only plans of few slots
  made_on : (w : Transmitting) (calls : List Call) (plans : List PlanTable) → HasFewSlots opened → AllByRecursion HasFewSlots w.watcher.list → HasMade (outset opened g p) (calls ++ Turns plans StaysSpent ∷ []) w
      → 0 + 8192 * count_by is_taken calls + 16384 < 2 ^ 64 → ⊥
  made_on w calls plans first small made many =
      let table : frame_of p ≤ 8192 = all_get (λ t. frame_of t ≤ 8192) (groups_of opened) g p there first in
      calls_go_on g p (before_calls opened p 0) calls plans table (record { few = table; first_slot = omega arith })
      (all_beginning HasFewSlots plans w.watcher.list (plans_seen g p (before_calls opened p 0) calls plans w.watcher.list made.at.seen) small) made.lawful many

  sent_on : (v w : Transmitting) (before then : Option (List Sent)) (calls last : List Call) (plans : List PlanTable) → StandsForCalls (outset opened g p) [] v → HasSent v w before then calls last → last ≡ Turns plans StaysSpent ∷ []
      → AllByRecursion (IsKnownPlan w.transmitter.at.station) w.watcher.list → HasMade (outset opened g p) (calls ++ Turns plans StaysSpent ∷ []) w
  sent_on v w before then calls last plans stands H is known = subst (λ (cs : List Call). HasMade (outset opened g p) (calls ++ cs) w) is (H.stands (outset opened g p) [] stands known)

never_by : (gate : GatePoints) (r frames : ℕ) (at : ends.Place) (planner : Planning) (list : List PlanTable) (g : ℕ) (old new : Sending)
    → IsReady at planner g old.transmit → HasFewSlots planner.last → AllByRecursion (IsKnownPlan at.station) list → AllByRecursion HasFewSlots list → frames ≤ 1000000 → IsPrefix new.transmit.watcher.list list
    → (hit : (p : SlotTable) × (slice_get (groups_of planner.last) g ≡ Some p)) → AreFewerSent gate r frames old new Change → ⊥
never_by gate r frames at planner list g old new R first known small few beginning hit S =
    let v = old.transmit in
    let w = new.transmit in
    made_on g planner.last hit.0 hit.1 w S.calls S.ended.0 first (all_beginning HasFewSlots w.watcher.list list beginning small)
    (sent_on g planner.last hit.0 hit.1 v w old.taken new.taken S.calls S.last S.ended.0 (stands_first at planner g v hit.0 R hit.1) S.sent S.ended.1 (known_there at w list (same_hub at planner g v w R S.sent.same) beginning known))
    (room (count_by is_taken S.calls) frames S.fewer few)

-- if the watcher saw only published plans
pub never_refused : (gate : GatePoints) (r frames : ℕ) (at : ends.Place) (planner : Planning) (list : List PlanTable) (g : ℕ) (old new : Sending) (answer : Result SendTotals SendFault)
    → IsReady at planner g old.transmit → HasFewSlots planner.last → g < length (groups_of planner.last) → AllByRecursion (IsKnownPlan at.station) list → AllByRecursion HasFewSlots list → frames ≤ 1000000
    → AreSent gate r frames old new answer → IsPrefix new.transmit.watcher.list list → answer ≢ Err Change
never_refused gate r frames at planner list g old new answer R first inside known small few sent beginning is =
    never_by gate r frames at planner list g old new R first known small few beginning (table_there (groups_of planner.last) g inside) (subst (AreSent gate r frames old new) is sent)

-- ---- one run

no_more : (calls : List Call) → (calls ++ []) ++ [] ≡ calls
no_more calls = append-nil (calls ++ []) ∙ append-nil calls

-- a transmitter that stood for no call, sent, and was given a list
told_stands : (b : Outset) (calls : List Call) (v w : Transmitting) (before after : Option (List Sent)) (list : List PlanTable) → StandsForCalls b [] v → HasSent v w before after calls [] → GoesOnByCalls w [] (told w list)
    → StandsForCalls b calls (told w list)
told_stands b calls v w before after list start H goes = subst (λ (cs : List Call). StandsForCalls b cs (told w list)) (no_more calls) (goes b (calls ++ []) (H.stands b [] start))

-- and then met receivers
met_stands : (b : Outset) (calls met : List Call) (t : TableRecord) (receivers : List ends.ReceiverEnd) (v z : Transmitting) → StandsForCalls b calls v → HasMet t receivers v z → map (meeting_of t) receivers ≡ met → StandsForCalls b (calls ++ met) z
met_stands b calls met t receivers v z start M same = subst (λ (cs : List Call). StandsForCalls b (calls ++ cs) z) same (M.stands b calls start)

-- all plans of a list are known to a transmitter of it
list_known : (t : TableRecord) (v : Transmitting) (list : List PlanTable) → v.transmitter.at.station ≡ t → v.watcher.list ≡ list → AllByRecursion (IsKnownPlan t) list
    → AllByRecursion (IsKnownPlan v.transmitter.at.station) v.watcher.list
list_known t v list here same known =
    subst (λ (x : TableRecord). AllByRecursion (IsKnownPlan x) v.watcher.list) (sym here) (subst (AllByRecursion (IsKnownPlan t)) (sym same) known)

-- calls that a transmitter made are those of a working one, if it saw the published plans
working : (t : TableRecord) (opened : PlanTable) (later : List Proposed) (g : ℕ) (p : SlotTable) (calls : List Call) (heard : ℕ → List (ℕ × ℕ)) (z : Transmitting)
    → IsWired t → slice_get (groups_of opened) g ≡ Some p → ArePublished (opening t opened) later → HasMade (outset opened g p) calls z → z.transmitter.at.station ≡ t
    → z.watcher.list ≡ plans_of (opening t opened) later → AreHeard 41 t heard → ((r : ℕ) → r < length t.receivers → Agrees t r (heard r) z.transmitter.loads)
    → IsWorking 41 (opening t opened) g p later calls heard
working t opened later g p calls heard z wired there published made here seen accepted agree = record {
  wired = wired;
  opens = there;
  published = published;
  lawful = made.lawful;
  seen = subst (IsPrefix (led_by (outset opened g p) calls).seen) seen made.at.seen;
  known = subst (λ (x : TableRecord). AllByRecursion (λ l. l.source < length x.sources) (loads_of calls)) here made.known;
  accepted = accepted;
  agree = λ r inside. subst (Agrees t r (heard r)) made.loads (agree r inside);
}

-- a station whose workers were taken in: its values, its planner before and after, the course of its run, and its receivers
pub record TakenIn : Type 0 where
  pub at : ends.Place
  pub first : Planning
  pub last : Planning
  pub course : Course
  pub receivers : List ends.ReceiverEnd

-- what is known of it
pub record IsTakenIn (x : TakenIn) : Type 0 where
  pub opened : x.first.last ≡ x.course.opened
  pub planned : IsPlanOf x.at.station x.course.opened
  pub list : x.last.list ≡ plans_of (opening x.at.station x.course.opened) x.course.later
  pub published : ArePublished (opening x.at.station x.course.opened) x.course.later
  pub known : AllByRecursion (IsKnownPlan x.at.station) x.last.list
  pub wired : IsWired x.at.station
  pub accepted : AreHeard 41 x.at.station (heard_in x.at.station x.course)
  pub meetings : map (meeting_of x.at.station) x.receivers ≡ meetings x.at.station x.course
  pub agree : (loads : List Load) → AllByRecursion (λ r. Agrees x.at.station r.number r.accepted loads) x.receivers → (r : ℕ) → r < length x.at.station.receivers → Agrees x.at.station r (heard_in x.at.station x.course r) loads

module _ (x : TakenIn) (K : IsTakenIn x) (g : ℕ) (p : SlotTable) (there : slice_get (groups_of x.course.opened) g ≡ Some p) where
  -- before its first cell, by the plan of the course
  begun_so : (v : Transmitting) → IsReady x.at x.first g v → StandsForCalls (outset x.course.opened g p) [] v
  begun_so v R =
      subst (λ (q : PlanTable). StandsForCalls (outset q g p) [] v) K.opened (stands_first x.at x.first g v p R (ap (λ (q : PlanTable). slice_get (groups_of q) g) K.opened ∙ there))

  -- when it was given all plans, and then met the receivers
  working_on : (w z : Transmitting) (calls : List Call) → w.transmitter.at ≡ x.at → StandsForCalls (outset x.course.opened g p) calls (told w x.last.list) → HasMet x.at.station x.receivers (told w x.last.list) z
      → IsWorking 41 (opening x.at.station x.course.opened) g p x.course.later (calls ++ meetings x.at.station x.course) (heard_in x.at.station x.course)
  working_on w z calls here stands M =
      let t = x.at.station in
      let c = x.course in
      let at_station : z.transmitter.at.station ≡ t = ap (λ (y : ends.Place). y.station) (M.hub ∙ here) in
      let list : z.watcher.list ≡ x.last.list = ap (λ (y : Transmitting). y.watcher.list) M.rest in
      working t c.opened c.later g p (calls ++ meetings t c) (heard_in t c) z K.wired there K.published
      (met_stands (outset c.opened g p) calls (meetings t c) t x.receivers (told w x.last.list) z stands M K.meetings (list_known t z x.last.list at_station list K.known))
      at_station (list ∙ K.list) K.accepted (K.agree z.transmitter.loads M.agree)

  -- what a group did
  sent_so : {B : Type 0} (sink : BusSink.Ghosts B) (frames : ℕ) (old new : Emitting B) (z : Transmitting) (totals : SendTotals) (calls : List Call)
      → new.transmit.transmitter.at ≡ x.at → StandsForCalls (outset x.course.opened g p) calls (told new.transmit x.last.list) → HasMet x.at.station x.receivers (told new.transmit x.last.list) z
      → HasSent old.transmit new.transmit (sink.taken old.sink) (sink.taken new.sink) calls []
      → totals ≡ totals_of (sent_in calls) new.transmit.number → AreWhole frames calls new.transmit.frame → IsSentIn sink.taken frames x.at.station x.course g old.sink new.sink totals
  sent_so sink frames old new z totals calls here stands M H counted whole =
      let w = new.transmit in
      let made : HasMade (outset x.course.opened g p) calls (told w x.last.list) = stands (list_known x.at.station (told w x.last.list) x.last.list (ap (λ (y : ends.Place). y.station) here) refl K.known) in
      record {
        table = p;
        calls = calls;
        works = working_on w z calls here stands M;
        only = H.sends;
        whole = subst (AreWhole frames calls) made.at.frame whole;
        took = H.took;
        counted = counted ∙ ap (totals_of (sent_in calls)) made.at.number;
      }

pub group_ran : {B : Type 0} (sink : BusSink.Ghosts B) (gate : GatePoints) (r : ℕ) (x : TakenIn) (frames g : ℕ) (old new : Emitting B) (totals : SendTotals)
    → IsTakenIn x → IsReady x.at x.first g old.transmit → AreAllSent gate r frames (sending old.transmit (sink.taken old.sink)) (sending new.transmit (sink.taken new.sink)) totals
    → IsJoined x.at.station x.last.list x.receivers new.transmit → IsSentIn sink.taken frames x.at.station x.course g old.sink new.sink totals
group_ran sink gate r x frames g old new totals K R S J =
    let v = old.transmit in
    let w = new.transmit in
    let hit = table_there (groups_of x.course.opened) g (subst (λ (n : ℕ). g < n) (sym K.planned.count) R.inside) in
    let b = outset x.course.opened g hit.0 in
    sent_so x K g hit.0 hit.1 sink frames old new J.end totals S.calls (same_hub x.at x.first g v w R S.sent.same)
    (told_stands b S.calls v w (sink.taken old.sink) (sink.taken new.sink) x.last.list (begun_so x K g hit.0 hit.1 v R) S.sent J.stands) J.met S.sent S.counted S.whole
