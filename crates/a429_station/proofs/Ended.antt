-- What holds of workers that have ended, and of the station that they were of.
use Rattle.std.proofs.Common.{◌≡◌, ◌∙◌, ◌⊎◌, ℕ, ◌+◌, ◌-◌, ◌^◌, ◌≤◌, Bool, true, false, List, [], ◌∷◌, ◌++◌, length, drop, map, ap, inl, inr, subst, sym, refl, arith}
use Rattle.std.specs.Prelude.{Option, None, Some, option_map, Result, Ok, Err, if◌then◌else◌, nat_lt, slice_get}
use Rattle.std.specs.List.{AllByRecursion, AllZip, range_with_len}
use Rattle.std.proofs.lemmas.List.{length_push, map-append}
use Rattle.std.proofs.lemmas.Option.{none-some, same_Some}
use Rattle.a429_equipment.specs.declared.arrivals.ArrivalRefusal.{ArrivalRefusal}
use Rattle.a429_equipment.specs.TableRecord.{TableRecord}
use Rattle.a429_equipment.specs.Agreement.{Agrees, words_of}
use Rattle.a429_equipment.specs.Arrivals.{sorted}
use Rattle.a429_equipment.specs.Receiving.{IsReceived, accepted_after, with_word}
use Rattle.a429_equipment.proofs.Receiving.{in_pieces}
use Rattle.a429_slots.specs.Tables.{PlanTable}
use Rattle.a429_slots.specs.Planned.{IsPlanOf}
use Rattle.a429_slots.specs.Proposed.{Proposed}
use Rattle.a429_filter.specs.declared.sources.LineSource as LineSource
use Rattle.a429_values.specs.Ends as ends
use Rattle.a429_board.specs.Lists.{Watched}
use Rattle.a429_workers.specs.Receives.{LineWordsAreTaken, Gives, after_words, answers_to, totals_of}
use Rattle.a429_workers.specs.Runs.{ArePublished, IsWired, plans_of}
use Rattle.a429_workers.specs.Gates.{GatePoints, IsGatedGroup, Listening, listening, points_of}
use Rattle.a429_workers.specs.Sends.{AreSent, Sending, sending, sent_in}
use Rattle.a429_workers.specs.Transmitting.{IsKnownPlan, IsSameGroup}
use Rattle.a429_workers.specs.declared.sinks.BusSink as BusSink
use Rattle.a429_workers.specs.declared.gates.Gate as Gate
use Rattle.a429_workers.specs.declared.receiving.ReceiveTotals.{ReceiveTotals}
use Rattle.a429_workers.specs.declared.receiving.ReceiveFault.{ReceiveFault}
use Rattle.a429_workers.specs.declared.receiving.ReceiveFault.TheVariants as receive
use Rattle.a429_workers.specs.declared.sending.SendTotals.{SendTotals}
use Rattle.a429_workers.specs.declared.sending.SendFault.{SendFault}
use Rattle.a429_station.specs.Course.{Course, IsHeardIn, IsSentIn, RunAsk, fresh, heard_in, meeting}
use Rattle.a429_station.specs.Faults.{EndsGroup, EndsLine, GaveTooMuch, HasStopped, IsFirstFault, first_fault, of_receiver}
use Rattle.a429_station.specs.Numbered.{AllNumbered, AllOfTwo}
use Rattle.a429_station.specs.Resubmitting.{GoesOn, IsBegun, IsDoneBetween, IsLed, Running, opening}
use Rattle.a429_station.specs.Working.{Emitting, HasEmitted, HasReceived, IsJoined, IsOver, IsReady, IsReceiverAt, emitting, meeting_of}
use Rattle.a429_station.specs.declared.working.Emitted.{Emitted}
use Rattle.a429_station.specs.declared.working.GroupWorker.{GroupWorker}
use Rattle.a429_station.specs.declared.working.Received.{Received}
use Rattle.a429_station.specs.declared.working.ReceiverWorker.{ReceiverWorker}
use Rattle.a429_station.specs.declared.faults.LiveFault.{LiveFault}
use Rattle.a429_station.specs.declared.faults.LiveFault.TheVariants.{NoMemory}
use Rattle.a429_station.proofs.Numbered.{mapped_range, numbered_also, numbered_both, numbered_place, numbered_weaker, two_of}
use Rattle.a429_station.proofs.OneRun.{IsTakenIn, TakenIn, group_ran, never_refused, same_hub}
use Rattle.a429_station.proofs.Plans.{plan_small}

-- ---- one receiver

pub receiver_stays : (at : ends.Place) (k : ℕ) (words : List ℕ) (answer : Result ReceiveTotals ReceiveFault) (old new : ends.ReceiverEnd) → LineWordsAreTaken words answer old new → old ≡ fresh at k → IsReceiverAt at k new
receiver_stays at k words (Ok totals) old new h is = (ap (λ (r : ends.ReceiverEnd). r.at) (h.0) ∙ ap (λ (r : ends.ReceiverEnd). r.at) is, ap (λ (r : ends.ReceiverEnd). r.number) (h.0) ∙ ap (λ (r : ends.ReceiverEnd). r.number) is)
receiver_stays at k words (Err receive.Source) old new h is = (ap (λ (r : ends.ReceiverEnd). r.at) (h.0) ∙ ap (λ (r : ends.ReceiverEnd). r.at) is, ap (λ (r : ends.ReceiverEnd). r.number) (h.0) ∙ ap (λ (r : ends.ReceiverEnd). r.number) is)
receiver_stays at k words (Err (receive.TooMuch raw totals)) old new h is = (ap (λ (r : ends.ReceiverEnd). r.at) h.taken ∙ ap (λ (r : ends.ReceiverEnd). r.at) is, ap (λ (r : ends.ReceiverEnd). r.number) h.taken ∙ ap (λ (r : ends.ReceiverEnd). r.number) is)
receiver_stays at k words (Err receive.Gate) old new h is = (ap (λ (r : ends.ReceiverEnd). r.at) (h.1) ∙ ap (λ (r : ends.ReceiverEnd). r.at) is, ap (λ (r : ends.ReceiverEnd). r.number) (h.1) ∙ ap (λ (r : ends.ReceiverEnd). r.number) is)

gave_too_much : (words : List ℕ) (answer : Result ReceiveTotals ReceiveFault) (old new : ends.ReceiverEnd) → LineWordsAreTaken words answer old new → GaveTooMuch words answer
gave_too_much words (Ok totals) old new h = tt
gave_too_much words (Err receive.Source) old new h = tt
gave_too_much words (Err receive.Gate) old new h = tt
gave_too_much words (Err (receive.TooMuch raw totals)) old new h = ap (λ (ws : List ℕ). length ws) h.all ∙ (length_push h.words raw ∙ omega (arith, h.million))

module _ {L : Type 0} (source : LineSource.Ghosts L) (gate : GatePoints) where
  pub line_ended : (k : ℕ) (old new : Listening L) (answer : Result ReceiveTotals ReceiveFault) → HasReceived source gate k old new answer → EndsLine source gate k old.line answer
  line_ended k old new answer h = record {
    after = new.line;
    words = h.words;
    gave = h.gave;
    at_end = h.at_end;
    failures = h.failures;
    many = gave_too_much h.words answer old.receiver new.receiver h.taken;
    taken = h.gated.0;
    gated = h.gated.2;
  }

  -- what it did, if it ended well
  pub heard_one : (own : ℕ) (at : ends.Place) (c : Course) (k : ℕ) (old new : Listening L) (answer : Result ReceiveTotals ReceiveFault) (totals : ReceiveTotals) (h : HasReceived source gate own old new answer)
      → old.receiver ≡ fresh at k → answer ≡ Ok totals → c.came k ≡ h.words → IsHeardIn (Gives source.given source.left) source.ended at.station c k old.line new.line totals
  heard_one own at c k old new (Ok counts) totals h is same came =
      let sum : counts ≡ totals = cc in
      record {
        gave = subst (λ (ws : List ℕ). Gives source.given source.left old.line ws new.line) (sym came) h.gave;
        at_end = h.at_end;
        few = subst (λ (ws : List ℕ). length ws ≤ 1000000) (sym came) h.taken.2;
        hub = at;
        station = refl;
        counted = sym sum ∙ (h.taken.1 ∙ (ap (λ (x : ends.ReceiverEnd). totals_of (answers_to x h.words)) is ∙ ap (λ (ws : List ℕ). totals_of (answers_to (fresh at k) ws)) (sym came)));
      }
  heard_one own at c k old new (Err fault) totals h is same came = absurd (cc same)

  -- and what its receiver is then
  pub receiver_one : (own : ℕ) (at : ends.Place) (k : ℕ) (came : List ℕ) (old new : Listening L) (answer : Result ReceiveTotals ReceiveFault) (totals : ReceiveTotals) (h : HasReceived source gate own old new answer)
      → old.receiver ≡ fresh at k → answer ≡ Ok totals → came ≡ h.words → new.receiver ≡ after_words (fresh at k) came
  receiver_one own at k came old new (Ok counts) totals h is same words =
      h.taken.0 ∙ (ap (λ (x : ends.ReceiverEnd). after_words x h.words) is ∙ ap (λ (ws : List ℕ). after_words (fresh at k) ws) (sym words))
  receiver_one own at k came old new (Err fault) totals h is same words = absurd (cc same)

-- ---- one group

pub group_stays : (gate : GatePoints) (r frames : ℕ) (old new : Sending) (answer : Result SendTotals SendFault) → AreSent gate r frames old new answer → IsSameGroup old.transmit new.transmit
group_stays gate r frames old new (Ok totals) h = h.sent.same
group_stays gate r frames old new (Err fault) h = h.sent.same

-- ---- what a receiver accepted, it accepts

module _ (limit : ℕ) (t : TableRecord) (r : ℕ) where
  one_received : (A : List (ℕ × ℕ)) (raw : ℕ) (x : Result ℕ ArrivalRefusal) → sorted t r raw ≡ x → IsReceived limit t r A → IsReceived limit t r (with_word limit A raw x)
  one_received A raw (Err refusal) is whole = whole
  one_received A raw (Ok s) is whole = by (nat_lt (length (words_of s A)) limit) refl
    where
      grown : List (ℕ × ℕ)
      grown = A ++ (s, raw) ∷ []

      by : (b : Bool) → nat_lt (length (words_of s A)) limit ≡ b → IsReceived limit t r (if b then grown else A)
      by true room =
          let added : with_word limit A raw (Ok s) ≡ grown = rw room refl in
          ap (accepted_after limit t r []) (map-append (λ (e : ℕ × ℕ). e.1) A ((s, raw) ∷ []))
          ∙ (in_pieces t limit r [] (map (λ (e : ℕ × ℕ). e.1) A) (raw ∷ [])
          ∙ (ap (λ (B : List (ℕ × ℕ)). with_word limit B raw (sorted t r raw)) whole ∙ (ap (λ (y : Result ℕ ArrivalRefusal). with_word limit A raw y) is ∙ added)))
      by false full = whole

  pub all_received : (A : List (ℕ × ℕ)) (raws : List ℕ) → IsReceived limit t r A → IsReceived limit t r (accepted_after limit t r A raws)
  all_received A [] whole = whole
  all_received A (raw ∷ raws) whole = all_received (with_word limit A raw (sorted t r raw)) raws (one_received A raw (sorted t r raw) refl whole)

-- ---- the station when its workers were taken in

-- the plans after the first
rest_of : {X : Type 0} (x y : X) (xs ys : List X) → x ∷ xs ≡ y ∷ ys → (x ≡ y) × (xs ≡ ys)
rest_of {X} x y xs ys same = (same_Some x y (ap (λ (l : List X). slice_get l 0) same), ap (λ (l : List X). drop 1 l) same)

-- the board of a station that began with this plan begins with it
pub record BeganSo (old new : Running) (later : List Proposed) : Type 0 where
  pub list : new.planner.list ≡ plans_of (opening old.station old.planner.last) later
  pub published : ArePublished (opening old.station old.planner.last) later
  pub station : new.station ≡ old.station

pub began_so : (old new : Running) → IsBegun old → GoesOn old new → (N : IsLed new) → BeganSo old new N.later
began_so old new B G N =
    let more : old.planner.last ∷ G.plans.0 ≡ N.opened ∷ map (λ (q : Proposed). q.plan) N.later = ap (λ (l : List PlanTable). l ++ G.plans.0) (sym B.first) ∙ (G.plans.1 ∙ N.plans) in
    let first : N.opened ≡ old.planner.last = sym (rest_of old.planner.last N.opened G.plans.0 (map (λ (q : Proposed). q.plan) N.later) more).0 in
    record {
      list = N.plans ∙ ap (λ (q : PlanTable). q ∷ map (λ (q : Proposed). q.plan) N.later) first;
      published = subst (λ (q : PlanTable). ArePublished (opening old.station q) N.later) first (subst (λ (t : TableRecord). ArePublished (opening t N.opened) N.later) G.station N.published);
      station = G.station;
    }

-- what was done to a station that began, up to its end
pub done_between : (did : Running → Running → Type 0) (t : TableRecord) (old new : Running) → t ≡ old.station → IsBegun old → GoesOn old new → (N : IsLed new) → did old new → IsDoneBetween did t old.planner.last N.later
done_between did t old new here B G N done = record { begin = old; end = new; begun = B; station = sym here; opens = refl; list = (began_so old new B G N).list; done = done }

-- each receiver is what it was before its first word, with the words that came to it
abbrev pub AreAfter : ends.Place → (ℕ → List ℕ) → List ends.ReceiverEnd → Type 0
AreAfter at came receivers = AllNumbered (λ k r. r ≡ after_words (fresh at k) (came k)) receivers

-- the course of a run of this station
abbrev pub course_of : Running → List Proposed → (ℕ → List ℕ) → Course
course_of old later came = record { opened = old.planner.last; later = later; came = came }

pub taken_in : (at : ends.Place) (old new : Running) (came : ℕ → List ℕ) (receivers : List ends.ReceiverEnd) → at.station ≡ old.station → IsBegun old → GoesOn old new → (N : IsLed new) → IsWired at.station
    → AreAfter at came receivers → length receivers ≡ length at.station.receivers → ((k : ℕ) → length at.station.receivers ≤ k → came k ≡ [])
    → IsTakenIn (record { at = at; first = old.planner; last = new.planner; course = course_of old N.later came; receivers = receivers })
taken_in at old new came receivers here B G N wired each all past =
    let t = at.station in
    let c = course_of old N.later came in
    let S = began_so old new B G N in
    record {
      opened = refl;
      planned = subst (λ (x : TableRecord). IsPlanOf x old.planner.last) (sym here) B.planned;
      list = S.list;
      published = subst (λ (x : TableRecord). ArePublished (opening x old.planner.last) N.later) (sym here) S.published;
      known = subst (λ (x : TableRecord). AllByRecursion (IsKnownPlan x) new.planner.list) (S.station ∙ sym here) N.known;
      wired = wired;
      accepted = record {
        received = λ r inside. all_received (2 ^ 41 - 1) t r [] (came r) refl;
        others = λ r outside. ap (accepted_after (2 ^ 41 - 1) t r []) (past r outside);
      };
      meetings = mapped_range (meeting_of t) (meeting t c) 0 receivers (numbered_weaker (λ k r. r ≡ after_words (fresh at k) (came k)) (λ k r. meeting_of t r ≡ meeting t c (0 + k)) (λ k r e. subst (λ (n : ℕ). meeting_of t r ≡ meeting t c n) (omega arith) (ap (meeting_of t) e)) receivers each)
          ∙ ap (λ (n : ℕ). map (meeting t c) (range_with_len 0 n)) all;
      agree = λ loads agrees r inside.
          numbered_place (λ k. Agrees t k (heard_in t c k) loads) receivers r (omega (arith, inside, all))
          (numbered_weaker (λ k x. (x ≡ after_words (fresh at k) (came k)) × Agrees t x.number x.accepted loads) (λ k x. Agrees t k (heard_in t c k) loads)
          (λ k x h. subst (λ (y : ends.ReceiverEnd). Agrees t y.number y.accepted loads) h.0 h.1) receivers
          (numbered_both (λ k x. x ≡ after_words (fresh at k) (came k)) (λ k x. Agrees t x.number x.accepted loads) receivers each (numbered_also (λ x. Agrees t x.number x.accepted loads) receivers agrees)));
    }

module _ {B : Type 0} (sink : BusSink.Ghosts B) (gate : GatePoints) (r : ℕ) where
  -- what its transmitter answered, and its sink took
  abbrev sent_by : Emitting B → Sending
  sent_by v = sending v.transmit (sink.taken v.sink)

  -- a group's worker that ended, which began ready
  pub group_over : (at : ends.Place) (old new : Running) (g frames : ℕ) (v w : Emitting B) (answer : Result SendTotals SendFault)
      → at.station ≡ old.station → IsBegun old → GoesOn old new → IsLed new → frames ≤ 1000000
      → HasEmitted sink gate r frames v w answer → IsReady at old.planner g v.transmit → IsOver at new.planner w.transmit answer
  group_over at old new g frames v w answer here begun G N few E R =
      let same = group_stays gate r frames (sent_by v) (sent_by w) answer E.sent in
      record {
        hub = same_hub at old.planner g v.transmit w.transmit R same;
        board = same.board ∙ (ap (λ (x : Watched). x.book) R.watcher ∙ sym G.book);
        counts = λ beginning is.
            never_refused gate r frames at old.planner new.planner.list g (sent_by v) (sent_by w) answer R (plan_small old.station old.planner.last begun.planned)
            (omega (arith, R.inside, begun.planned.count, ap (λ (t : TableRecord). length t.groups) here))
            (subst (λ (x : TableRecord). AllByRecursion (IsKnownPlan x) new.planner.list) (G.station ∙ sym here) N.known) N.small few E.sent beginning is;
      }

  -- a group's worker that ended well, was given all plans, and met the receivers
  pub group_one : (x : TakenIn) (frames own g : ℕ) (v w : Emitting B) (answer : Result SendTotals SendFault) (totals : SendTotals)
      → IsTakenIn x → HasEmitted sink gate r own v w answer → IsJoined x.at.station x.last.list x.receivers w.transmit → IsReady x.at x.first g v.transmit → own ≡ frames → answer ≡ Ok totals
      → IsSentIn sink.taken frames x.at.station x.course g v.sink w.sink totals
  group_one x frames own g v w answer totals K E J R same is =
      group_ran sink gate r x frames g v w totals K R (subst (λ (n : ℕ). AreSent gate r n (sent_by v) (sent_by w) (Ok totals)) same (subst (AreSent gate r own (sent_by v) (sent_by w)) is E.sent)) J

-- how many cells the sink of a group took, and at which point of the gate the loop ended
gated_so : (gate : GatePoints) (g frames : ℕ) (old new : Sending) (answer : Result SendTotals SendFault) → AreSent gate g frames old new answer → (n : ℕ) × IsGatedGroup gate g n answer
gated_so gate g frames old new (Ok totals) S = (length (sent_in S.calls), S.gated)
gated_so gate g frames old new (Err fault) S = (length (sent_in S.calls), S.gated)

pub group_ended : {B : Type 0} (sink : BusSink.Ghosts B) (gate : GatePoints) (g frames : ℕ) (v w : Emitting B) (answer : Result SendTotals SendFault) → HasEmitted sink gate g frames v w answer → EndsGroup sink gate g v.sink answer
group_ended sink gate g frames v w answer E =
    let G = gated_so gate g frames (sent_by sink gate g v) (sent_by sink gate g w) answer E.sent in
    record { after = w.sink; failures = E.failures; taken = G.0; gated = G.1 }

-- ---- the first fault

-- if no worker has a fault
pub want_of_memory : (x : Option ReceiveFault) (y : Option SendFault) (fault : LiveFault) → x ≡ None → y ≡ None → fault ≡ NoMemory → IsFirstFault x y fault
want_of_memory x y fault well none is = subst (λ (z : Option ReceiveFault). IsFirstFault z y fault) (sym well) (subst (λ (z : Option SendFault). IsFirstFault None z fault) (sym none) is)

-- so it is when what receivers did is gathered
pub unheard : (x : Option ReceiveFault) (y : Option SendFault) (fault e : LiveFault) → x ≡ None → y ≡ None → (fault ≡ NoMemory) ⊎ (Some fault ≡ option_map of_receiver x) → e ≡ fault → IsFirstFault x y e
unheard x y fault e well none (inl want) is = want_of_memory x y e well none (is ∙ want)
unheard x y fault e well none (inr why) is = absurd (none-some fault (sym (why ∙ ap (option_map of_receiver) well)))

-- and what groups did
pub untold : (x : Option ReceiveFault) (y z : Option SendFault) (fault e : LiveFault) → x ≡ None → y ≡ None → z ≡ y → (fault ≡ NoMemory) ⊎ IsFirstFault None z fault → e ≡ fault → IsFirstFault x y e
untold x y z fault e well none same (inl want) is = want_of_memory x y e well none (is ∙ want)
untold x y z fault e well none same (inr first) is = want_of_memory x y e well none (is ∙ subst (λ (w : Option SendFault). IsFirstFault None w fault) (same ∙ none) first)

-- ---- all workers

module _ {L B G : Type 0} (source : LineSource.Ghosts L) (sink : BusSink.Ghosts B) (gate : Gate.Ghosts G) where
  -- what a receiver's worker did
  abbrev pub HasHeard : ReceiverWorker L G → Received L → Type 0
  HasHeard w d = HasReceived source (points_of gate w.gate.now) w.number (listening w.line w.receiver) (listening d.line d.receiver) d.answer

  -- what a group's worker did
  abbrev pub HasPut : GroupWorker B G sink gate → Emitted B → Type 0
  HasPut v e = HasEmitted sink (points_of gate v.gate.now) v.number v.frames (emitting v.transmit v.sink) (emitting e.transmit e.sink) e.answer

  -- their loops have ended, each with its number and at one gate
  pub all_stopped : (at : G) (ask : RunAsk L B) (ws : List (ReceiverWorker L G)) (ds : List (Received L)) (vs : List (GroupWorker B G sink gate)) (es : List (Emitted B)) (fault : LiveFault)
      → AllZip HasHeard ws ds → AllNumbered (λ k w. (w.number ≡ k) × (w.gate.now ≡ at)) ws → map (λ w. w.line) ws ≡ ask.sources
      → AllZip HasPut vs es → AllNumbered (λ k v. (v.number ≡ k) × (v.gate.now ≡ at)) vs → map (λ v. v.sink) vs ≡ ask.sinks
      → IsFirstFault (first_fault (map (λ d. d.answer) ds)) (first_fault (map (λ e. e.answer) es)) fault → HasStopped source sink (points_of gate at) ask fault
  all_stopped at ask ws ds vs es fault heard places lines sent also sinks first =
      let here = points_of gate at in
      record {
        heard = map (λ d. d.answer) ds;
        sent = map (λ e. e.answer) es;
        lines = subst (λ l. AllOfTwo (EndsLine source here) l (map (λ d. d.answer) ds)) lines
            (two_of HasHeard (λ k w. (w.number ≡ k) × (w.gate.now ≡ at)) (EndsLine source here) (λ w. w.line) (λ d. d.answer)
            (λ k w d h p. line_ended source here k (listening w.line w.receiver) (listening d.line d.receiver) d.answer
            (subst (λ (x : G). HasReceived source (points_of gate x) k (listening w.line w.receiver) (listening d.line d.receiver) d.answer) p.1
            (subst (λ (n : ℕ). HasReceived source (points_of gate w.gate.now) n (listening w.line w.receiver) (listening d.line d.receiver) d.answer) p.0 h))) ws ds heard places);
        groups = subst (λ l. AllOfTwo (EndsGroup sink here) l (map (λ e. e.answer) es)) sinks
            (two_of HasPut (λ k v. (v.number ≡ k) × (v.gate.now ≡ at)) (EndsGroup sink here) (λ v. v.sink) (λ e. e.answer)
            (λ k v e h p. group_ended sink here k v.frames (emitting v.transmit v.sink) (emitting e.transmit e.sink) e.answer
            (subst (λ (x : G). HasEmitted sink (points_of gate x) k v.frames (emitting v.transmit v.sink) (emitting e.transmit e.sink) e.answer) p.1
            (subst (λ (n : ℕ). HasEmitted sink (points_of gate v.gate.now) n v.frames (emitting v.transmit v.sink) (emitting e.transmit e.sink) e.answer) p.0 h))) vs es sent also);
        first = first;
      }
