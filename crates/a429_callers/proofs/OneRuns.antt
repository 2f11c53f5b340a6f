-- What was done at the ends of a station of two receivers is one run of the machine, by the law of one run.
use Rattle.std.proofs.Common.{◌≡◌, ◌∙◌, ℕ, zero, suc, ◌+◌, ◌-◌, ◌^◌, ◌<◌, ◌≤◌, Bool, true, List, [], ◌∷◌, ◌++◌, length, refl, sym, ap, subst, arith, append-nil, append_assoc}
use Rattle.std.specs.Prelude.{◌≢◌, Option, Some, slice_get, Result, Ok, Err, IfOk, IfSome, OnErr}
use Rattle.std.specs.Result.{result_ok}
use Rattle.std.specs.List.{AllByRecursion}
use Rattle.std.proofs.lemmas.List.Elements.{filter_map-append}
use Rattle.std.proofs.lemmas.Option.{none-some, same_Some}
use mathlib.Core.List.{IsPrefix}
use Rattle.a429_equipment.specs.declared.loads.Load.{Load}
use Rattle.a429_equipment.specs.TableRecord.{TableRecord}
use Rattle.a429_equipment.specs.Agreement.{Agrees, AgreesToTheEnd}
use Rattle.a429_equipment.specs.Receiving.{IsReceived}
use Rattle.a429_equipment.specs.SameStation.{HaveOneStation, same_station}
use Rattle.a429_equipment.specs.Sound.{IsSound}
use Rattle.a429_slots.specs.Tables.{SlotTable, PlanTable, groups_of}
use Rattle.a429_slots.specs.Planned.{IsPlanOf}
use Rattle.a429_slots.specs.Proposed.{Proposed}
use Rattle.a429_board.specs.Lists.{Planning, Watched, numbered}
use Rattle.a429_board.specs.declared.planner.BoardFault.{BoardFault}
use Rattle.a429_values.specs.Ends.{Place, ReceiverEnd, TransmitterEnd}
use Rattle.a429_values.specs.Later.{OthersStayAgreed}
use Rattle.a429_workers.specs.Calls.{Call, Meets, loads_of}
use Rattle.a429_workers.specs.Receives.{after_words}
use Rattle.a429_workers.specs.Runs.{IsWired, IsWorking, WorkIsOneRun}
use Rattle.a429_workers.specs.Sends.{HasSent, sent_in, with_cells}
use Rattle.a429_workers.specs.Transmitting.{BeginsWith, GoesOnByCalls, HasMade, IsKnownPlan, Outset, StandsForCalls, Transmitting, led_by, met}
use Rattle.a429_workers.specs.declared.cells.Sent.{Sent}
use Rattle.a429_callers.specs.OneRun.{AreShown, EndsRunOnce, HasHeard, HasMetTwo, HasSentAll, IsOneRun, IsRunOver, fresh, heard_of, opening, two}
use Rattle.a429_equipment.specs.declared.rows.SourceRow.{SourceRow}
use Rattle.a429_workers.proofs.Known.{plan_known}

-- ---- answers

-- what is known of an answer is known of the value in it
pub some_of_ok : {T E : Type 0} (P : T → Type 0) (r : Result T E) (o : Option T) → o ≡ result_ok r → IfOk r P → IfSome o P
some_of_ok P (Ok x) o is h = subst (λ o. IfSome o P) (sym is) h
some_of_ok P (Err e) o is h = subst (λ o. IfSome o P) (sym is) tt

-- ---- the planner's list

-- with only the opening plan
pub shown_first : (t : TableRecord) (plan : PlanTable) (list : List PlanTable) → IsSound t → IsPlanOf t plan → list ≡ plan ∷ [] → AreShown (opening t plan) list
shown_first t plan list sound planned is = record {
  later = [];
  published = record { of_station = tt; numbered = λ k q h. absurd (none-some q h); countable = omega (arith, planned.number) };
  plans = is;
  known = subst (AllByRecursion (IsKnownPlan t)) (sym is) (plan_known t t plan refl sound planned, tt);
}

one_numbered : (base : ℕ) (q : Proposed) → q.plan.number ≡ base + 1 → (k : ℕ) (x : Proposed) → slice_get (q ∷ []) k ≡ Some x → x.plan.number ≡ base + (k + 1)
one_numbered base q is zero x h = ap (λ (y : Proposed). y.plan.number) (sym (same_Some q x h)) ∙ is
one_numbered base q is (suc k) x h = absurd (none-some x h)

-- with one more
pub shown_next : (t e : TableRecord) (plan next : PlanTable) (n : ℕ) (list : List PlanTable) → IsSound t → IsSound e → IsPlanOf t plan → IsPlanOf e next → same_station t e ≡ true → t.sources ≡ e.sources
    → n ≡ plan.number + 1 → list ≡ plan ∷ numbered next n ∷ [] → AreShown (opening t plan) list
shown_next t e plan next n list sound other planned after same sources is all =
    let q : Proposed = record { station = e; plan = numbered next n } in
    record {
      later = q ∷ [];
      published = record { of_station = (same, tt); numbered = one_numbered plan.number q is; countable = omega (arith, planned.number) };
      plans = all;
      known = subst (AllByRecursion (IsKnownPlan t)) (sym all) (plan_known t t plan refl sound planned, (plan_known t e next (ap (λ (s : List SourceRow). length s) sources) other after, tt));
    }

-- ---- one run

-- the ends as they are then
abbrev heard_at : Place → ℕ → List ℕ → ReceiverEnd
heard_at at r words = after_words (fresh at r) words

receives : (t : TableRecord) (a b : List ℕ) → IsReceived (2 ^ 41 - 1) t 0 (heard_of t (two a b) 0) → IsReceived (2 ^ 41 - 1) t 1 (heard_of t (two a b) 1) → (r : ℕ) → IsReceived (2 ^ 41 - 1) t r (heard_of t (two a b) r)
receives t a b one other zero = one
receives t a b one other (suc zero) = other
receives t a b one other (suc (suc r)) = refl

no_others : (t : TableRecord) (a b : List ℕ) → length t.receivers ≡ 2 → (r : ℕ) → length t.receivers ≤ r → heard_of t (two a b) r ≡ []
no_others t a b few zero past = absurd (omega (arith, few, past))
no_others t a b few (suc zero) past = absurd (omega (arith, few, past))
no_others t a b few (suc (suc r)) past = refl

agreed : (t : TableRecord) (a b : List ℕ) (loads : List Load) → length t.receivers ≡ 2 → Agrees t 0 (heard_of t (two a b) 0) loads → Agrees t 1 (heard_of t (two a b) 1) loads
    → (r : ℕ) → r < length t.receivers → Agrees t r (heard_of t (two a b) r) loads
agreed t a b loads few one other zero inside = one
agreed t a b loads few one other (suc zero) inside = other
agreed t a b loads few one other (suc (suc r)) inside = absurd (omega (arith, few, inside))

-- meetings send nothing
cells_stay : (calls : List Call) (one other : List Load) → sent_in ((calls ++ []) ++ Meets one ∷ Meets other ∷ []) ≡ sent_in calls
cells_stay calls one other =
    filter_map-append _ (calls ++ []) (Meets one ∷ Meets other ∷ []) ∙ (append-nil (sent_in (calls ++ [])) ∙ ap sent_in (append-nil calls))

first_of : {X : Type 0} (xs : List X) → 0 < length xs → (x : X) × (slice_get xs 0 ≡ Some x)
first_of [] some = absurd (omega (arith, some))
first_of (x ∷ xs) some = (x, refl)

pub one_run_of : (law : WorkIsOneRun) (at : Place) (w : Watched) (list : List PlanTable) (begun sent done : Transmitting) (a b : List ℕ) (calls : List Call) (before after : Option (List Sent))
    → IsWired at.station → length at.station.receivers ≡ 2 → 0 < length at.station.groups → IsPlanOf at.station w.opened
    → BeginsWith (record { at = at; number = 0; loads = [] }) w 0 begun → begun.transmitter.at ≡ at → HasSent begun sent before after calls []
    → AreShown (opening at.station w.opened) list → HasMetTwo sent done (heard_at at 0 a) (heard_at at 1 b) list
    → IsOneRun at.station (two a b) before after
one_run_of law at w list begun sent done a b calls before after wired few some planned begins here S shown M =
    let t = at.station in
    let found = first_of (groups_of w.opened) (omega (arith, planned.count, some)) in
    let p : SlotTable = found.0 in
    let o : Outset = record { opened = w.opened; group = 0; table = p; first = 0; before = [] } in
    let all : List Call = (calls ++ []) ++ Meets M.one ∷ Meets M.other ∷ [] in
    let stands : StandsForCalls o all done = M.stands o (calls ++ []) (S.stands o [] (begins p found.1)) in
    let hub : done.transmitter.at ≡ at = M.station ∙ (S.same.hub ∙ here) in
    let station : done.transmitter.at.station ≡ t = ap (λ (q : Place). q.station) hub in
    let was : sent.transmitter.at.station ≡ t = ap (λ (q : Place). q.station) (S.same.hub ∙ here) in
    let known : AllByRecursion (IsKnownPlan t) done.watcher.list = subst (AllByRecursion (IsKnownPlan t)) (sym M.told) shown.known in
    let made : HasMade o all done = stands (subst (λ (x : TableRecord). AllByRecursion (IsKnownPlan x) done.watcher.list) (sym station) known) in
    let loads : done.transmitter.loads ≡ loads_of all = made.loads in
    let one : Agrees t 0 (heard_of t (two a b) 0) (loads_of all) =
    subst (Agrees t 0 (heard_of t (two a b) 0)) loads (subst (λ (x : TableRecord). Agrees x 0 (heard_of t (two a b) 0) done.transmitter.loads) was M.agrees_one) in
    let other : Agrees t 1 (heard_of t (two a b) 1) (loads_of all) =
    subst (Agrees t 1 (heard_of t (two a b) 1)) loads (subst (λ (x : TableRecord). Agrees x 1 (heard_of t (two a b) 1) done.transmitter.loads) was M.agrees_other) in
    let working : IsWorking 41 (opening t w.opened) 0 p shown.later all (heard_of t (two a b)) = record {
      wired = wired;
      opens = found.1;
      published = shown.published;
      lawful = made.lawful;
      seen = subst (IsPrefix (led_by o all).seen) (M.told ∙ shown.plans) made.at.seen;
      known = subst (λ (x : TableRecord). AllByRecursion (λ (l : Load). l.source < length x.sources) (loads_of all)) station made.known;
      accepted = record { received = λ r inside. receives t a b M.received_one M.received_other r; others = no_others t a b few };
      agree = agreed t a b (loads_of all) few one other;
    } in
    record {
      plan = w.opened;
      planned = planned;
      later = shown.later;
      calls = all;
      run = law 41 (opening t w.opened) 0 p shown.later all (heard_of t (two a b)) working;
      cells = S.took ∙ ap (with_cells before) (sym (cells_stay calls M.one M.other));
    }

-- ---- meetings

same_calls : (made : List Call) (x y : Call) → ((made ++ []) ++ x ∷ []) ++ y ∷ [] ≡ made ++ x ∷ y ∷ []
same_calls made x y = append_assoc (made ++ []) (x ∷ []) (y ∷ []) ∙ ap (λ (l : List Call). l ++ x ∷ y ∷ []) (append-nil made)

goes_on : (old told one other : Transmitting) (x y : Call) → GoesOnByCalls old [] told → GoesOnByCalls told (x ∷ []) one → GoesOnByCalls one (y ∷ []) other → GoesOnByCalls old (x ∷ y ∷ []) other
goes_on old told one other x y first second third = λ o made S.
    subst (λ (l : List Call). StandsForCalls o l other) (same_calls made x y) (third o ((made ++ []) ++ x ∷ []) (second o (made ++ []) (first o made S)))

-- the planner's list, as a transmitter gets it
abbrev pub told_of : Transmitting → List PlanTable → Transmitting
told_of v list = record v { watcher = record v.watcher { list = list } }

agreed_later : (t : TableRecord) (a b : ReceiverEnd) (before after : List Load) → a.number ≢ b.number → AgreesToTheEnd t a.number a.accepted before → OthersStayAgreed t b.number before after → Agrees t a.number a.accepted after
agreed_later t a b before after apart whole others = (whole.0, others a.number whole.0 a.accepted apart whole.1)

pub met_both : (old told one other : Transmitting) (a b : ReceiverEnd) (list : List PlanTable) (l m : List Load) → a.number ≢ b.number
    → told ≡ told_of old list → one ≡ met told a → other ≡ met one b
    → GoesOnByCalls old [] told → GoesOnByCalls told (Meets l ∷ []) one → GoesOnByCalls one (Meets m ∷ []) other
    → AgreesToTheEnd told.transmitter.at.station a.number a.accepted one.transmitter.loads
    → AgreesToTheEnd one.transmitter.at.station b.number b.accepted other.transmitter.loads
    → OthersStayAgreed one.transmitter.at.station b.number one.transmitter.loads other.transmitter.loads
    → IsReceived a.limit a.at.station a.number a.accepted → IsReceived b.limit b.at.station b.number b.accepted
    → HasMetTwo old other a b list
met_both old told one other a b list l m apart is_told is_one is_other first second third agrees_one agrees_other others received_one received_other =
    let at_told : told.transmitter.at ≡ old.transmitter.at = ap (λ (v : Transmitting). v.transmitter.at) is_told in
    let at_one : one.transmitter.at ≡ old.transmitter.at = ap (λ (v : Transmitting). v.transmitter.at) is_one ∙ at_told in
    let at_other : other.transmitter.at ≡ old.transmitter.at = ap (λ (v : Transmitting). v.transmitter.at) is_other ∙ at_one in
    let list_one : one.watcher.list ≡ list = ap (λ (v : Transmitting). v.watcher.list) is_one ∙ ap (λ (v : Transmitting). v.watcher.list) is_told in
    let first_agrees = subst (λ (p : Place). AgreesToTheEnd p.station a.number a.accepted one.transmitter.loads) at_told agrees_one in
    let others_stay = subst (λ (p : Place). OthersStayAgreed p.station b.number one.transmitter.loads other.transmitter.loads) at_one others in
    let second_agrees = subst (λ (p : Place). AgreesToTheEnd p.station b.number b.accepted other.transmitter.loads) at_one agrees_other in
    record {
      one = l;
      other = m;
      stands = goes_on old told one other (Meets l) (Meets m) first second third;
      told = ap (λ (v : Transmitting). v.watcher.list) is_other ∙ list_one;
      station = at_other;
      agrees_one = agreed_later old.transmitter.at.station a b one.transmitter.loads other.transmitter.loads apart first_agrees others_stay;
      agrees_other = (second_agrees.0, second_agrees.1);
      received_one = received_one;
      received_other = received_other;
    }

-- ---- a publication

pub shown_after : (t e : TableRecord) (old new : Planning) (plan : PlanTable) (r : Result ℕ BoardFault) → IsSound t → IsSound e → IsPlanOf t old.last → IsPlanOf e plan → same_station t e ≡ true
    → HaveOneStation t e → old.list ≡ old.last ∷ [] → IfOk r (λ n. n ≡ old.last.number + 1) → IfOk r (λ n. new.list ≡ old.list ++ numbered plan n ∷ []) → OnErr r (new ≡ old)
    → AreShown (opening t old.last) new.list
shown_after t e old new plan (Ok n) sound other planned after same one first next list stays =
    shown_next t e old.last plan n new.list sound other planned after same one.1 next (list ∙ ap (λ (l : List PlanTable). l ++ numbered plan n ∷ []) first)
shown_after t e old new plan (Err fault) sound other planned after same one first next list stays =
    shown_first t old.last new.list sound planned (ap (λ (v : Planning). v.list) stays ∙ first)

-- ---- what was done on threads

-- the receivers and the transmitter are of one hub, and the transmitter began by the planner's board
pub run_over : {L B : Type 0} (given : L → List ℕ) (taken : B → Option (List Sent)) (law : EndsRunOnce) (t : TableRecord) (at : Place) (w : Watched) (list : List PlanTable)
    (end : TransmitterEnd) (begun sent done : Transmitting) (one one' other other' : ReceiverEnd) (heard also took : Bool) (f f' s s' : L) (b b' : B)
    → at.station ≡ t → IsWired t → length t.receivers ≡ 2 → 0 < length t.groups → IsPlanOf t w.opened
    → end ≡ record { at = at; number = 0; loads = [] } → BeginsWith end w 0 begun → begun.transmitter ≡ end
    → one ≡ fresh at 0 → other ≡ fresh at 1 → HasHeard given f f' one one' heard → HasHeard given s s' other other' also → HasSentAll begun sent (taken b) (taken b') took
    → AreShown (opening t w.opened) list → HasMetTwo sent done one' other' list → heard ≡ true → also ≡ true → took ≡ true → IsRunOver given taken t f f' s s' b b'
run_over given taken law t at w list end begun sent done one one' other other' heard also took f f' s s' b b' here wired few some planned is_end begins ends is_one is_other first second S shown M all_first all_second all_sent =
    let x = first.words in
    let y = second.words in
    let was_one : one' ≡ heard_at at 0 x = first.taken all_first ∙ ap (λ (r : ReceiverEnd). after_words r x) is_one in
    let was_other : other' ≡ heard_at at 1 y = second.taken all_second ∙ ap (λ (r : ReceiverEnd). after_words r y) is_other in
    let met : HasMetTwo sent done (heard_at at 0 x) (heard_at at 1 y) list = subst (λ (r : ReceiverEnd). HasMetTwo sent done (heard_at at 0 x) r list) was_other (subst (λ (r : ReceiverEnd). HasMetTwo sent done r other' list) was_one M) in
    let back = sym here in
    record {
      one = x;
      other = y;
      gave_one = first.gave;
      gave_other = second.gave;
      run = subst (λ (k : TableRecord). IsOneRun k (two x y) (taken b) (taken b')) here (
          law at w list begun sent done x y S.calls (taken b) (taken b')
          (subst IsWired back wired) (subst (λ (k : TableRecord). length k.receivers ≡ 2) back few) (subst (λ (k : TableRecord). 0 < length k.groups) back some) (subst (λ (k : TableRecord). IsPlanOf k w.opened) back planned)
          (subst (λ (e : TransmitterEnd). BeginsWith e w 0 begun) is_end begins) (ap (λ (e : TransmitterEnd). e.at) (ends ∙ is_end)) (S.sent all_sent)
          (subst (λ (k : TableRecord). AreShown (opening k w.opened) list) back shown) met);
    }
