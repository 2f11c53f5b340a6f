-- Why a run did not come to its end.
use Rattle.std.proofs.Common.{◌≡◌, ◌∙◌, ◌⊎◌, ℕ, suc, List, [], ◌∷◌, ap, inl, inr, map, refl, subst, sym}
use Rattle.std.specs.Prelude.{Option, Some, None, Result, Ok, Err, IfErr, option_map, slice_get}
use Rattle.std.proofs.lemmas.Option.{none-some, same_Some}
use Rattle.a429_slots.specs.declared.planner.PlanFault.{PlanFault}
use Rattle.a429_filter.specs.declared.sources.LineSource as LineSource
use Rattle.a429_workers.specs.declared.sinks.BusSink as BusSink
use Rattle.a429_workers.specs.declared.gates.Point.{Point}
use Rattle.a429_workers.specs.declared.receiving.ReceiveTotals.{ReceiveTotals}
use Rattle.a429_workers.specs.declared.receiving.ReceiveFault.{ReceiveFault}
use Rattle.a429_workers.specs.declared.receiving.ReceiveFault.TheVariants as receive
use Rattle.a429_workers.specs.declared.sending.SendTotals.{SendTotals}
use Rattle.a429_workers.specs.declared.sending.SendFault.{SendFault}
use Rattle.a429_workers.specs.declared.sending.SendFault.TheVariants as send
use Rattle.a429_workers.specs.Gates.{GatePoints, point_after_cell, point_after_word, point_before_cell, point_before_word}
use Rattle.a429_station.specs.Course.{RunAsk}
use Rattle.a429_station.specs.Faults.{CanStart, EndsGroup, EndsLine, HasStopped, IsFirstFault, IsLiveFault, IsRunFault, first_fault, of_receiver}
use Rattle.a429_station.specs.Numbered.{AllOfTwo}
use Rattle.a429_station.specs.declared.faults.LiveFault.{LiveFault}
use Rattle.a429_station.specs.declared.faults.LiveFault.TheVariants.{Plan, TooMuch, Join, Source, Gate, Sink, NoMemory}

pub weaker : {A E : Type 0} (P Q : E → Type 0) (r : Result A E) → ((e : E) → P e → Q e) → IfErr r P → IfErr r Q
weaker P Q (Ok a) on h = tt
weaker P Q (Err e) on h = on e h

-- ---- the first fault, one worker after another

-- it is that of the others, if this one ended well
first_later : {A E : Type 0} (r : Result A E) (rs : List (Result A E)) → first_fault (r ∷ []) ≡ None → first_fault (r ∷ rs) ≡ first_fault rs
first_later (Ok done) rs well = refl
first_later (Err why) rs well = absurd (none-some why (sym well))

first_of_all : {D A E : Type 0} (f : D → Result A E) (d : D) (before rest : List D) (all : Option E) → before ≡ d ∷ rest → first_fault (map f before) ≡ all → first_fault (f d ∷ map f rest) ≡ all
first_of_all {D} f d before rest all next so_far = ap (λ (l : List D). first_fault (map f l)) (sym next) ∙ so_far

pub first_goes_on : {D A E : Type 0} (f : D → Result A E) (d : D) (before rest : List D) (all : Option E) → before ≡ d ∷ rest → first_fault (f d ∷ []) ≡ None → first_fault (map f before) ≡ all → first_fault (map f rest) ≡ all
first_goes_on f d before rest all next well so_far = sym (first_later (f d) (map f rest) well) ∙ first_of_all f d before rest all next so_far

-- the fault of a group, or `NoMemory` if it ended well
group_here : (r : Result SendTotals SendFault) (rs : List (Result SendTotals SendFault)) (fault : LiveFault) → IsFirstFault None (first_fault (r ∷ [])) fault → (fault ≡ NoMemory) ⊎ IsFirstFault None (first_fault (r ∷ rs)) fault
group_here (Ok totals) rs fault is = inl is
group_here (Err why) rs fault is = inr is

pub group_stops : {D : Type 0} (f : D → Result SendTotals SendFault) (d : D) (before rest : List D) (all : Option SendFault) (fault e : LiveFault) → before ≡ d ∷ rest → first_fault (map f before) ≡ all
    → IsFirstFault None (first_fault (f d ∷ [])) fault → e ≡ fault → (e ≡ NoMemory) ⊎ IsFirstFault None all e
group_stops f d before rest all fault e next so_far stop is =
    subst (λ (x : LiveFault). (x ≡ NoMemory) ⊎ IsFirstFault None all x) (sym is)
    (subst (λ (w : Option SendFault). (fault ≡ NoMemory) ⊎ IsFirstFault None w fault) (first_of_all f d before rest all next so_far) (group_here (f d) (map f rest) fault stop))

-- the same of a receiver
receiver_here : (r : Result ReceiveTotals ReceiveFault) (rs : List (Result ReceiveTotals ReceiveFault)) (fault : LiveFault) → (fault ≡ NoMemory) ⊎ (Some fault ≡ option_map of_receiver (first_fault (r ∷ [])))
    → (fault ≡ NoMemory) ⊎ (Some fault ≡ option_map of_receiver (first_fault (r ∷ rs)))
receiver_here (Ok totals) rs fault (inl want) = inl want
receiver_here (Ok totals) rs fault (inr is) = absurd (none-some fault (sym is))
receiver_here (Err why) rs fault is = is

pub receiver_stops : {D : Type 0} (f : D → Result ReceiveTotals ReceiveFault) (d : D) (before rest : List D) (all : Option ReceiveFault) (fault e : LiveFault) → before ≡ d ∷ rest → first_fault (map f before) ≡ all
    → (fault ≡ NoMemory) ⊎ (Some fault ≡ option_map of_receiver (first_fault (f d ∷ []))) → e ≡ fault → (e ≡ NoMemory) ⊎ (Some e ≡ option_map of_receiver all)
receiver_stops f d before rest all fault e next so_far stop is =
    subst (λ (x : LiveFault). (x ≡ NoMemory) ⊎ (Some x ≡ option_map of_receiver all)) (sym is)
    (subst (λ (w : Option ReceiveFault). (fault ≡ NoMemory) ⊎ (Some fault ≡ option_map of_receiver w)) (first_of_all f d before rest all next so_far) (receiver_here (f d) (map f rest) fault stop))

-- ---- the worker whose fault it is

-- the item at a place that comes with this fault
pub record HasFault {X A E : Type 0} (P : ℕ → X → Result A E → Type 0) (xs : List X) (why : E) : Type 0 where
  pub place : ℕ
  pub item : X
  pub there : slice_get xs place ≡ Some item
  pub holds : P place item (Err why)

pub first_found : {X A E : Type 0} (P : ℕ → X → Result A E → Type 0) (xs : List X) (answers : List (Result A E)) (why : E) → AllOfTwo P xs answers → first_fault answers ≡ Some why → HasFault P xs why
first_found P [] [] why all is = absurd (none-some why is)
first_found P [] (a ∷ answers) why all is = absurd all
first_found P (x ∷ xs) [] why all is = absurd all
first_found P (x ∷ xs) (Ok done ∷ answers) why all is =
    let F = first_found (λ k. P (suc k)) xs answers why all.1 is in
    record { place = suc F.place; item = F.item; there = F.there; holds = F.holds }
first_found P (x ∷ xs) (Err fault ∷ answers) why all is =
    record { place = 0; item = x; there = refl; holds = subst (λ e. P 0 x (Err e)) (same_Some fault why is) all.0 }

-- a gate ended the run at a point at which it may end a loop
module _ {L B : Type 0} (source : LineSource.Ghosts L) (sink : BusSink.Ghosts B) (gate : GatePoints) (ask : RunAsk L B) where
  of_line : HasFault (EndsLine source gate) ask.sources receive.Gate → (at : Point) × gate.shuts at
  of_line F = elim F.holds.gated [
    | inl before ↦ (point_before_word F.place F.holds.taken, before.1.shut)
    | inr after ↦ (point_after_word F.place after.last, after.ended.shut)
  ]

  of_sink : HasFault (EndsGroup sink gate) ask.sinks send.Gate → (at : Point) × gate.shuts at
  of_sink F = elim F.holds.gated [
    | inl before ↦ (point_before_cell F.place F.holds.taken, before.shut)
    | inr after ↦ (point_after_cell F.place after.0, after.2.shut)
  ]

  pub shut_somewhere : HasStopped source sink gate ask Gate → (at : Point) × gate.shuts at
  shut_somewhere S = by (first_fault S.heard) (first_fault S.sent) refl refl S.first
    where
      by : (x : Option ReceiveFault) (y : Option SendFault) → first_fault S.heard ≡ x → first_fault S.sent ≡ y → IsFirstFault x y Gate → (at : Point) × gate.shuts at
      by (Some receive.Gate) y heard sent h = of_line (first_found (EndsLine source gate) ask.sources S.heard receive.Gate S.lines heard)
      by (Some receive.Source) y heard sent h = absurd (cc h)
      by (Some (receive.TooMuch raw totals)) y heard sent h = absurd (cc h)
      by None (Some send.Gate) heard sent h = of_sink (first_found (EndsGroup sink gate) ask.sinks S.sent send.Gate S.groups sent)
      by None (Some send.Sink) heard sent h = absurd (cc h)
      by None (Some send.Change) heard sent h = absurd h
      by None None heard sent h = absurd (cc h)

-- ---- of a run

-- no worker ends with a fault of a plan
never_plan : (why : PlanFault) (x : Option ReceiveFault) (y : Option SendFault) → IsFirstFault x y (Plan why) → ⊥
never_plan why (Some receive.Source) y h = absurd (cc h)
never_plan why (Some receive.Gate) y h = absurd (cc h)
never_plan why (Some (receive.TooMuch raw totals)) y h = absurd (cc h)
never_plan why None (Some send.Sink) h = absurd (cc h)
never_plan why None (Some send.Gate) h = absurd (cc h)
never_plan why None (Some send.Change) h = h
never_plan why None None h = absurd (cc h)

module _ {L B : Type 0} (idle : Type 0) (source : LineSource.Ghosts L) (sink : BusSink.Ghosts B) (gate : GatePoints) (ask : RunAsk L B) (start : CanStart ask.table ask.frames) where
  stopped : (fault : LiveFault) → (fault ≡ NoMemory → ⊥) → (fault ≡ Join → ⊥) → IsRunFault idle source sink gate ask fault → HasStopped source sink gate ask fault
  stopped fault some other (inl none) = absurd (some none.0)
  stopped fault some other (inr (inl join)) = absurd (other join)
  stopped fault some other (inr (inr stop)) = stop

  pub live_fault : (fault : LiveFault) → IsRunFault idle source sink gate ask fault → IsLiveFault idle source sink gate ask fault
  live_fault (Plan why) h = let S = stopped (Plan why) (λ e. absurd (cc e)) (λ e. absurd (cc e)) h in absurd (never_plan why _ _ S.first)
  live_fault TooMuch h = inr (start, stopped TooMuch (λ e. absurd (cc e)) (λ e. absurd (cc e)) h)
  live_fault Source h = (start, stopped Source (λ e. absurd (cc e)) (λ e. absurd (cc e)) h)
  live_fault Gate h = (start, stopped Gate (λ e. absurd (cc e)) (λ e. absurd (cc e)) h)
  live_fault Sink h = (start, stopped Sink (λ e. absurd (cc e)) (λ e. absurd (cc e)) h)
  live_fault Join h = start
  live_fault NoMemory (inl none) = (start, inl none.1)
  live_fault NoMemory (inr (inl join)) = absurd (cc join)
  live_fault NoMemory (inr (inr stop)) = (start, inr stop)

  pub no_memory : idle → (fault : LiveFault) → fault ≡ NoMemory → IsLiveFault idle source sink gate ask fault
  no_memory still fault is = subst (IsLiveFault idle source sink gate ask) (sym is) (start, inl still)
