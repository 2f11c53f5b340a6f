-- How many cells a group sends in whole frames, by the plan that a run began with and those that were published during the run.
use Rattle.std.proofs.Common.{◌≡◌, ◌∙◌, ◌+◌, ◌-◌, ◌≤◌, ◌<◌, ◌∷◌, [], ◌++◌, ℕ, zero, suc, Bool, true, false, List, length, map, ap, subst, sym, refl, arith, inl, inr}
use Rattle.std.specs.Prelude.{Option, Some, None, IsTrue, cond, count_by, if◌then◌else◌, nat_lt, slice_get, sum_by, unwrap_or}
use Rattle.std.specs.List.{AllByRecursion}
use Rattle.std.specs.Option.{option_map_or}
use Rattle.std.proofs.lemmas.Bool.{ltb-true, ltb-false}
use Rattle.std.proofs.lemmas.List.Sums.{sum_by-cons}
use Rattle.a429_equipment.specs.TableRecord.{TableRecord}
use Rattle.a429_slots.specs.History.{last_of}
use Rattle.a429_slots.specs.Planned.{IsPlanOf}
use Rattle.a429_slots.specs.Proposed.{Proposed}
use Rattle.a429_equipment.specs.SameStation.{same_station}
use Rattle.a429_slots.specs.FrameStates.{FrameState, after_cell, fits_next, turned}
use Rattle.a429_slots.specs.Tables.{SlotTable, PlanTable, cells_of, groups_of}
use Rattle.a429_station.specs.Course.{Course, IsSentIn, meetings}
use Rattle.a429_station.specs.Numbered.{AllNumbered, AllOfThree}
use Rattle.a429_station.specs.Resubmitting.{IsDoneBetween, Running}
use Rattle.a429_workers.specs.Calls.{Call, Asks, Meets, StaysMid, StaysSpent, GroupState, Takes, Turns, AreLawful, IsAnswered, after, before_calls, state_after, table_of}
use Rattle.a429_workers.specs.Sends.{AreWhole, is_send, is_taken, sent_in}
use Rattle.a429_workers.specs.declared.cells.Sent.{Sent}
use Rattle.a429_workers.specs.declared.sending.SendTotals.{SendTotals}
use Rattle.a429_word.proofs.Lists.{all_at, all_beginning, all_push}
use Rattle.a429_workers.proofs.Calling.{due_is}
use Rattle.a429_workers.proofs.Order.{seen_on}
use Rattle.a429_live.specs.LiveReplies.{AreSentWhole, HasTableOf, IsSentWhole, IsSlotTableOf}
use Rattle.a429_live.specs.Resubmitted.{AreAnswers}
use Rattle.a429_live.specs.declared.control.SubmitAnswer.{SubmitAnswer}
use Rattle.a429_live.specs.declared.control.SubmitAnswer.TheVariants as answer

-- ---- one cell, one frame

cell_sent : (f : FrameState) → nat_lt f.sent (cells_of f.table) ≡ true → after_cell f ≡ record f { sent = f.sent + 1 }
cell_sent f room = rw room refl

frame_begun : (f : FrameState) (t : SlotTable) → fits_next f t ≡ true → (turned f t).table ≡ t
frame_begun f t room = rw room refl

no_cell_sent : (f : FrameState) (t : SlotTable) → fits_next f t ≡ true → (turned f t).sent ≡ 0
no_cell_sent f t room = rw room refl

-- a frame that was taken: all cells of the one before were sent, and the next one can be counted
taken_next : (n : ℕ) (mid fits : Bool) (m : ℕ) → Takes n ≡ (if mid then StaysMid else (if fits then Takes m else StaysSpent)) → (mid ≡ false) × (fits ≡ true)
taken_next n true fits m is = absurd (cc is)
taken_next n false true m is = (refl, refl)
taken_next n false false m is = absurd (cc is)

-- ---- a group's calls

module _ (g : ℕ) (p : SlotTable) where
  -- the slot tables of the frames that were taken, in order
  abbrev frames_in : List Call → List SlotTable
  frames_in [] = []
  frames_in (Turns plans (Takes n) ∷ calls) = table_of g p plans ∷ frames_in calls
  frames_in (Turns plans StaysMid ∷ calls) = frames_in calls
  frames_in (Turns plans StaysSpent ∷ calls) = frames_in calls
  frames_in (Asks c ∷ calls) = frames_in calls
  frames_in (Meets loads ∷ calls) = frames_in calls

  count_on : (c : Call) (calls : List Call) → count_by is_taken (c ∷ calls) ≡ cond (is_taken c) 1 0 + count_by is_taken calls
  count_on c calls = sum_by-cons (λ (x : Call). cond (is_taken x) 1 0) c calls

  as_many : (calls : List Call) → length (frames_in calls) ≡ count_by is_taken calls
  as_many [] = refl
  as_many (Turns plans (Takes n) ∷ calls) = let one = count_on (Turns plans (Takes n)) calls in let later = as_many calls in omega (arith, one, later)
  as_many (Turns plans StaysMid ∷ calls) = let one = count_on (Turns plans StaysMid) calls in let later = as_many calls in omega (arith, one, later)
  as_many (Turns plans StaysSpent ∷ calls) = let one = count_on (Turns plans StaysSpent) calls in let later = as_many calls in omega (arith, one, later)
  as_many (Asks c ∷ calls) = let one = count_on (Asks c) calls in let later = as_many calls in omega (arith, one, later)
  as_many (Meets loads ∷ calls) = let one = count_on (Meets loads) calls in let later = as_many calls in omega (arith, one, later)

  abbrev frames_cells : List Call → ℕ
  frames_cells calls = sum_by cells_of (frames_in calls)

  -- the cells that calls send, with those of the frame that was begun before
  counted : (rest : List Call) (s : GroupState) (calls : List Call) → s.frame.sent ≤ cells_of s.frame.table → AreLawful g p s (calls ++ rest) → AllByRecursion (λ c. IsTrue (is_send c)) calls
      → length (sent_in calls) + s.frame.sent + cells_of (state_after g p s calls).frame.table ≡ cells_of s.frame.table + frames_cells calls + (state_after g p s calls).frame.sent
  counted rest s [] few law only = omega arith
  counted rest s (Asks None ∷ calls) few law only = absurd (cc (only.0))
  counted rest s (Meets loads ∷ calls) few law only = absurd (cc (only.0))
  counted rest s (Turns plans StaysMid ∷ calls) few law only = absurd (cc (only.0))
  counted rest s (Turns plans StaysSpent ∷ calls) few law only = absurd (cc (only.0))
  counted rest s (Asks (Some c) ∷ calls) few law only =
      let next = after g p s (Asks (Some c)) in
      let answered : IsAnswered s c = law.0 in
      let left = (due_is s.frame answered.cell answered.due).left in
      let one : next.frame ≡ record s.frame { sent = s.frame.sent + 1 } = cell_sent s.frame left in
      let sent : next.frame.sent ≡ s.frame.sent + 1 = ap (λ (f : FrameState). f.sent) one in
      let same : cells_of next.frame.table ≡ cells_of s.frame.table = ap (λ (f : FrameState). cells_of f.table) one in
      let room : s.frame.sent < cells_of s.frame.table = ltb-true s.frame.sent (cells_of s.frame.table) left in
      let later = counted rest next calls (omega (arith, sent, same, room)) law.1 only.1 in
      omega (arith, later, sent, same)
  counted rest s (Turns plans (Takes n) ∷ calls) few law only =
      let next = after g p s (Turns plans (Takes n)) in
      let both = taken_next n (nat_lt s.frame.sent (cells_of s.frame.table)) (fits_next s.frame (table_of g p plans)) _ law.0.1 in
      let all : cells_of s.frame.table ≤ s.frame.sent = ltb-false s.frame.sent (cells_of s.frame.table) both.0 in
      let none : next.frame.sent ≡ 0 = no_cell_sent s.frame (table_of g p plans) both.1 in
      let begun : cells_of next.frame.table ≡ cells_of (table_of g p plans) = ap cells_of (frame_begun s.frame (table_of g p plans) both.1) in
      let later = counted rest next calls (omega (arith, none)) law.1 only.1 in
      let more = sum_by-cons cells_of (table_of g p plans) (frames_in calls) in
      omega (arith, later, none, begun, all, few, more)

  module _ (R : SlotTable → Type 0) (own : R p) where
    -- the group's slot tables of a plan
    abbrev Gives : PlanTable → Type 0
    Gives x = (t : SlotTable) → slice_get (groups_of x) g ≡ Some t → R t

    of_group : (y : Option SlotTable) → ((t : SlotTable) → y ≡ Some t → R t) → R (unwrap_or y p)
    of_group None gives = own
    of_group (Some t) gives = gives t refl

    of_last : (last : Option PlanTable) → ((x : PlanTable) → last ≡ Some x → Gives x) → R (option_map_or (λ q. unwrap_or (slice_get (groups_of q) g) p) last p)
    of_last None gives = own
    of_last (Some x) gives = of_group (slice_get (groups_of x) g) (gives x refl)

    fits : (plans : List PlanTable) → AllByRecursion Gives plans → R (table_of g p plans)
    fits plans all = of_last (last_of plans) (λ x is. all_at Gives plans (length plans - 1) x all is)

    all_fit : (rest : List Call) (s : GroupState) (calls : List Call) → AreLawful g p s (calls ++ rest) → AllByRecursion Gives (state_after g p s (calls ++ rest)).seen → AllByRecursion R (frames_in calls)
    all_fit rest s [] law seen = tt
    all_fit rest s (Asks None ∷ calls) law seen = all_fit rest s calls law.1 seen
    all_fit rest s (Asks (Some c) ∷ calls) law seen = all_fit rest (after g p s (Asks (Some c))) calls law.1 seen
    all_fit rest s (Meets loads ∷ calls) law seen = all_fit rest s calls law.1 seen
    all_fit rest s (Turns plans StaysMid ∷ calls) law seen = all_fit rest (after g p s (Turns plans StaysMid)) calls law.1 seen
    all_fit rest s (Turns plans StaysSpent ∷ calls) law seen = all_fit rest (after g p s (Turns plans StaysSpent)) calls law.1 seen
    all_fit rest s (Turns plans (Takes n) ∷ calls) law seen =
        let next = after g p s (Turns plans (Takes n)) in
        let end = state_after g p next (calls ++ rest) in
        (fits plans (all_beginning Gives plans end.seen (seen_on g p next (calls ++ rest) law.1) seen), all_fit rest next calls law.1 seen)

-- ---- the plans that were published during the run

module _ (t : TableRecord) (g : ℕ) (R : SlotTable → Type 0) where
  abbrev Given : PlanTable → Type 0
  Given x = (p : SlotTable) → slice_get (groups_of x) g ≡ Some p → R p

  all_given : (v w : Running) (tables : List (List ℕ)) (answers : List SubmitAnswer) → v.station ≡ t → ((p : SlotTable) → HasTableOf t g p tables → R p) → AreAnswers v tables answers w
      → AllByRecursion Given v.planner.list → AllByRecursion Given w.planner.list
  all_given v w [] [] here each is all = subst (λ (x : Running). AllByRecursion Given x.planner.list) (sym is) all
  all_given v w [] (a ∷ answers) here each is all = absurd is
  all_given v w (table ∷ tables) [] here each is all = absurd is
  all_given v w (table ∷ tables) (answer.Refused refusal ∷ answers) here each (u, stays, later) all =
      all_given u w tables answers (ap (λ (x : Running). x.station) stays.1 ∙ here) (λ p has. each p (inr has)) later (subst (λ (x : Running). AllByRecursion Given x.planner.list) (sym stays.1) all)
  all_given v w (table ∷ tables) (answer.OtherStation ∷ answers) here each (u, stays, later) all =
      all_given u w tables answers (ap (λ (x : Running). x.station) stays.1 ∙ here) (λ p has. each p (inr has)) later (subst (λ (x : Running). AllByRecursion Given x.planner.list) (sym stays.1) all)
  all_given v w (table ∷ tables) (answer.NumbersSpent ∷ answers) here each (u, stays, later) all =
      all_given u w tables answers (ap (λ (x : Running). x.station) stays.1 ∙ here) (λ p has. each p (inr has)) later (subst (λ (x : Running). AllByRecursion Given x.planner.list) (sym stays.1) all)
  all_given v w (table ∷ tables) (answer.Published n ∷ answers) here each (u, P, later) all =
      all_given u w tables answers (P.station ∙ here) (λ p has. each p (inr has)) later
      (subst (AllByRecursion Given) (sym P.list) (all_push Given v.planner.list _ all
      (λ p is. each p (inl (record { station = P.of.record_of; plan = P.of.plan }, (P.of.reads, P.of.planned, P.of.own), subst (λ (x : TableRecord). same_station x P.of.record_of ≡ true) here P.same, is)))))

-- ---- a group of a run

whole_by : (frames : ℕ) (first : SlotTable) (taken : List SlotTable) (t : TableRecord) (q : PlanTable) (further : List (List ℕ)) (g : ℕ) (totals : SendTotals) (calls : List Call) (end : FrameState)
    → slice_get (groups_of q) g ≡ Some first → AreWhole frames calls end → length taken ≡ count_by is_taken calls → AllByRecursion (IsSlotTableOf t q further g) taken
    → totals.cells ≡ length (sent_in calls) → length (sent_in calls) + 0 + cells_of end.table ≡ cells_of first + sum_by cells_of taken + end.sent
    → IsSentWhole t q further frames g totals
whole_by zero first taken t q further g totals calls end opens whole many fit cells all = cells ∙ ap (λ (cs : List Call). length (sent_in cs)) whole
whole_by (suc n) first taken t q further g totals calls end opens whole many fit cells all = (first, opens, taken, many ∙ whole.0, fit, omega (arith, cells, all, whole.1))

sent_whole : {B : Type 0} (taken : B → Option (List Sent)) (frames : ℕ) (t : TableRecord) (c : Course) (further : List (List ℕ)) (g : ℕ) (before after : B) (totals : SendTotals)
    → AllByRecursion (Given t g (IsSlotTableOf t c.opened further g)) (c.opened ∷ map (λ (q : Proposed). q.plan) c.later) → IsSentIn taken frames t c g before after totals → IsSentWhole t c.opened further frames g totals
sent_whole taken frames t c further g before after totals given S =
    let start = before_calls c.opened S.table 0 in
    let R = IsSlotTableOf t c.opened further g in
    let rest = meetings t c in
    let own : R S.table = inl S.works.opens in
    let seen = all_beginning (Given t g R) (state_after g S.table start (S.calls ++ rest)).seen (c.opened ∷ map (λ (q : Proposed). q.plan) c.later) S.works.seen given in
    whole_by frames S.table (frames_in g S.table S.calls) t c.opened further g totals S.calls (state_after g S.table start S.calls).frame S.works.opens S.whole (as_many g S.table S.calls)
    (all_fit g S.table R own rest start S.calls S.works.lawful seen) (ap (λ (x : SendTotals). x.cells) S.counted) (counted g S.table rest start S.calls (omega arith) S.works.lawful S.only)

all_of : {X Y Z : Type 0} (P : ℕ → X → Y → Z → Type 0) (Q : ℕ → Z → Type 0) → ((k : ℕ) (x : X) (y : Y) (z : Z) → P k x y z → Q k z) → (xs : List X) (ys : List Y) (zs : List Z) → AllOfThree P xs ys zs → AllNumbered Q zs
all_of P Q each [] [] [] all = tt
all_of P Q each [] [] (z ∷ zs) all = absurd all
all_of P Q each [] (y ∷ ys) zs all = absurd all
all_of P Q each (x ∷ xs) [] zs all = absurd all
all_of P Q each (x ∷ xs) (y ∷ ys) [] all = absurd all
all_of P Q each (x ∷ xs) (y ∷ ys) (z ∷ zs) (one, all) = (each 0 x y z one, all_of (λ k. P (suc k)) (λ k. Q (suc k)) (λ k. each (suc k)) xs ys zs all)

pub all_sent_whole : {B : Type 0} (taken : B → Option (List Sent)) (frames : ℕ) (t : TableRecord) (c : Course) (further : List (List ℕ)) (answers : List SubmitAnswer) (before after : List B) (totals : List SendTotals)
    (did : Running → Running → Type 0) (D : IsDoneBetween did t c.opened c.later) → IsPlanOf t c.opened → AreAnswers D.begin further answers D.end → AllOfThree (IsSentIn taken frames t c) before after totals
    → AreSentWhole t frames further totals
all_sent_whole taken frames t c further answers before after totals did D planned answered sent =
    let begins : (g : ℕ) → AllByRecursion (Given t g (IsSlotTableOf t c.opened further g)) D.begin.planner.list = λ g.
    subst (AllByRecursion (Given t g (IsSlotTableOf t c.opened further g))) (sym D.begun.first) (λ p is. inl (subst (λ (x : PlanTable). slice_get (groups_of x) g ≡ Some p) D.opens is), tt) in
    let given : (g : ℕ) → AllByRecursion (Given t g (IsSlotTableOf t c.opened further g)) (c.opened ∷ map (λ (q : Proposed). q.plan) c.later) = λ g.
    subst (AllByRecursion (Given t g (IsSlotTableOf t c.opened further g))) D.list (all_given t g (IsSlotTableOf t c.opened further g) D.begin D.end further answers D.station (λ p has. inr has) answered (begins g)) in
    (c.opened, planned, all_of (IsSentIn taken frames t c) (IsSentWhole t c.opened further frames) (λ g b a x S. sent_whole taken frames t c further g b a x (given g) S) before after totals sent)
