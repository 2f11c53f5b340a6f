-- The events of a run, call by call: before a call comes what its answer shows, at the end comes the rest.
use Rattle.std.proofs.Common.{◌≡◌, ℕ, zero, suc, ◌+◌, ◌-◌, ◌<◌, ◌≤◌, true, false, List, [], ◌∷◌, ◌++◌, length, take, drop, map, ◌∙◌, sym, ap, subst, refl, inl, inr, arith, append-nil, append_assoc}
use Rattle.std.specs.Prelude.{Option, Some, None, ⊤, min, filter, filter_map, option_map, slice_get, option_to_list}
use Rattle.std.specs.List.{AllByRecursion, zip}
use Rattle.std.proofs.lemmas.List.{drop_all, length-map, take-map}
use Rattle.std.proofs.Math.Seq.{take-nil}
use Rattle.std.proofs.lemmas.Option.{none-some, same_Some, slice_get-map}
use Rattle.std.proofs.lemmas.Bool.{cases_eq, eq-eqb, ne_eqb}
use mathlib.Core.List.{IsPrefix}
use Rattle.a429_word.proofs.Lists.{all_parts, prefix_on, prefix_self, get_within}
use Rattle.a429_equipment.specs.declared.loads.Load.{Load}
use Rattle.a429_equipment.specs.Agreement.{IsCutOfLoad, Cuts, is_of, words_of}
use Rattle.a429_slots.specs.Tables.{SlotTable, PlanTable, cells_of}
use Rattle.a429_slots.specs.Proposed.{Proposed}
use Rattle.a429_slots.specs.Events.{Event, Arrive, Cell, Frame, Publish}
use Rattle.a429_slots.specs.History.{Opening, accepted_by, last_of, latest_by}
use Rattle.a429_slots.specs.GoingOn.{stands_after}
use Rattle.a429_slots.specs.declared.answers.Answer.{Answer}
use Rattle.a429_slots.specs.declared.answers.Answer.TheVariants.{Accepted, Sent, Published, Refused}
use Rattle.a429_slots.specs.declared.answers.Refusal.TheVariants.{FrameEnd}
use Rattle.a429_slots.specs.Answers.{answer, answers}
use Rattle.a429_workers.specs.Calls.{Call, Carried, Turn, Asks, Turns, Meets, Takes, StaysMid, StaysSpent, GroupState, AreLawful, turn, after_turn, after, state_after, before_calls, loads_in, loads_of}
use Rattle.a429_workers.specs.Runs.{HasCellPlace, HavePlace, IsWorking, CallsAreOneRun, answered, is_sending, comes_to, is_publish, event_of, turn_answer}
use Rattle.a429_workers.proofs.Counting.{IsCounted, all_join, counted_along, counted_on}
use Rattle.a429_workers.proofs.Lists.{drop_next, newly_seen}
use Rattle.a429_workers.proofs.Steps.{Below, Given, IsAt, IsLatest, bump, accepted_here, arrival_answer, arrival_step, publish_answer_is, publish_step, end_answer, end_step, cell_answer_is, cell_step, turn_step}
use Rattle.a429_workers.proofs.Steps

-- ---- events with their answers

-- after these events each of the next is answered so
abbrev AreTold : ℕ → Opening → List Event → List (Event × Answer) → Type 0
AreTold C o E [] = ⊤
AreTold C o E (x ∷ xs) = (answer C o E x.0 ≡ x.1) × AreTold C o (E ++ x.0 ∷ []) xs

told_so : (C : ℕ) (o : Opening) (E : List Event) (xs : List (Event × Answer)) → AreTold C o E xs → zip (map (λ x. x.0) xs) (answers C o E (map (λ x. x.0) xs)) ≡ xs
told_so C o E [] h = refl
told_so C o E (x ∷ xs) h =
    ap (λ (a : Answer). (x.0, a) ∷ zip (map (λ y. y.0) xs) (answers C o (E ++ x.0 ∷ []) (map (λ y. y.0) xs))) h.0
    ∙ ap (λ (ys : List (Event × Answer)). x ∷ ys) (told_so C o (E ++ x.0 ∷ []) xs h.1)

told_first : (C : ℕ) (o : Opening) (E : List Event) (n : ℕ) (xs : List (Event × Answer)) → AreTold C o E xs → AreTold C o E (take n xs)
told_first C o E zero xs h = tt
told_first C o E (suc n) [] h = tt
told_first C o E (suc n) (x ∷ xs) h = (h.0, told_first C o (E ++ x.0 ∷ []) n xs h.1)

-- ---- plans that were seen

turned_seen : (g : ℕ) (p : SlotTable) (s : GroupState) (plans : List PlanTable) (t : Turn) → (after_turn g p s plans t).seen ≡ plans
turned_seen g p s plans (Takes n) = refl
turned_seen g p s plans StaysMid = refl
turned_seen g p s plans StaysSpent = refl

turned_same : (g : ℕ) (p : SlotTable) (s : GroupState) (seen plans : List PlanTable) (t : Turn) → after_turn g p (record s { seen = seen }) plans t ≡ after_turn g p s plans t
turned_same g p s seen plans (Takes n) = refl
turned_same g p s seen plans StaysMid = refl
turned_same g p s seen plans StaysSpent = refl

-- the group's frame after calls does not depend on what was seen before
frame_same : (g : ℕ) (p : SlotTable) (s : GroupState) (seen : List PlanTable) (calls : List Call) → (state_after g p (record s { seen = seen }) calls).frame ≡ (state_after g p s calls).frame
frame_same g p s seen [] = refl
frame_same g p s seen (Asks None ∷ calls) = frame_same g p s seen calls
frame_same g p s seen (Asks (Some c) ∷ calls) = frame_same g p (after g p s (Asks (Some c))) seen calls
frame_same g p s seen (Meets loads ∷ calls) = frame_same g p s seen calls
frame_same g p s seen (Turns plans t ∷ calls) = ap (λ (r : GroupState). (state_after g p r calls).frame) (turned_same g p s seen plans t)

-- calls only add to what was seen
pub seen_on : (g : ℕ) (p : SlotTable) (s : GroupState) (calls : List Call) → AreLawful g p s calls → IsPrefix s.seen (state_after g p s calls).seen
seen_on g p s [] h = prefix_self s.seen
seen_on g p s (Asks None ∷ calls) h = seen_on g p s calls h.1
seen_on g p s (Asks (Some c) ∷ calls) h = seen_on g p (after g p s (Asks (Some c))) calls h.1
seen_on g p s (Meets loads ∷ calls) h = seen_on g p s calls h.1
seen_on g p s (Turns plans t ∷ calls) h =
    let end = state_after g p (after_turn g p s plans t) calls in
    prefix_on s.seen plans end.seen h.0.0 (subst (λ (qs : List PlanTable). IsPrefix qs end.seen) (turned_seen g p s plans t) (seen_on g p (after_turn g p s plans t) calls h.1))

module _ (C : ℕ) (o : Opening) (g : ℕ) (p : SlotTable) (later : List Proposed) (heard : ℕ → List (ℕ × ℕ)) (W : Given C o g p later heard) where
  -- the state after the first of these events, and after these calls
  abbrev on_by : List Event → List (Event × Answer) → ℕ → List Event
  on_by E events n = E ++ map (λ (x : Event × Answer). x.0) (take n events)

  record Leads (E : List Event) (s : GroupState) (events : List (Event × Answer)) (calls : List Call) : Type 0 where
    pub count : ℕ
    pub within : count ≤ length events
    pub sends : filter (λ x. is_sending x.0) (take count events) ≡ filter_map (event_of g) calls
    pub frame : stands_after o g p (on_by E events count) ≡ (state_after g p s calls).frame
    pub loaded : AllByRecursion (IsCounted C o (on_by E events count)) (loads_of calls)

  -- one of these events is the cell for which the load was made, after these calls
  record Carries (E : List Event) (events : List (Event × Answer)) (calls : List Call) (l : Load) : Type 0 where
    pub count : ℕ
    pub asked : option_map (λ x. x.0) (slice_get events count) ≡ Some (Cell g)
    pub sends : filter (λ x. is_sending x.0) (take count events) ≡ filter_map (event_of g) calls
    pub latest : latest_by C o l.source (on_by E events count) ≡ (l.count, l.word)

  abbrev CarriesEach : List Event → List (Event × Answer) → List Call → Type 0
  CarriesEach E events calls = (n : ℕ) (c : Carried) (l : Load) → slice_get calls n ≡ Some (Asks (Some c)) → c.load ≡ Some l → Carries E events (take n calls) l

  -- the events that come next, with their answers, if these calls are yet to come and these plans must be published
  record Next (E : List Event) (cut : ℕ → ℕ) (s : GroupState) (calls : List Call) (rest : List Proposed) : Type 0 where
    pub events : List (Event × Answer)
    pub reached : (n : ℕ) → Leads E s events (take n calls)
    pub carried : CarriesEach E events calls
    pub so : AreTold C o E events
    pub sends : filter (λ x. is_sending x.0) events ≡ filter_map (event_of g) calls
    pub arrivals : (r : ℕ) → filter (λ x. comes_to r x.0) events ≡ map (λ a. (Arrive r a.1, Accepted a.0)) (drop (cut r) (heard r))
    pub publications : filter (λ x. is_publish x.0) events ≡ map (λ q. (Publish q, Published q.plan.number)) rest

  abbrev At : List Event → (ℕ → ℕ) → GroupState → List Proposed → Type 0
  At = IsAt C o g p later heard

  -- these loads are yet to be shown
  record IsOn (E : List Event) (cut : ℕ → ℕ) (s : GroupState) (rest : List Proposed) (loads : List Load) : Type 0 where
    pub at : IsAt C o g p later heard E cut s rest
    pub within : (r : ℕ) → cut r ≤ length (heard r)
    pub agree : (r : ℕ) → r < length o.proposal.station.receivers → (last : ℕ) × Cuts (is_of o.proposal.station r) (heard r) (cut r) loads last

  -- ---- one event more

  on_one : (E : List Event) (x : Event × Answer) (events : List (Event × Answer)) (n : ℕ) → on_by (E ++ x.0 ∷ []) events n ≡ on_by E (x ∷ events) (suc n)
  on_one E x events n = append_assoc E (x.0 ∷ []) (map (λ (y : Event × Answer). y.0) (take n events))

  leads_on : (E : List Event) (x : Event × Answer) (s : GroupState) (events : List (Event × Answer)) (calls : List Call) → is_sending x.0 ≡ false → Leads (E ++ x.0 ∷ []) s events calls → Leads E s (x ∷ events) calls
  leads_on E x s events calls no' L = record {
    count = suc L.count;
    within = omega (arith, L.within);
    sends = rw no' L.sends;
    frame = subst (λ (F : List Event). stands_after o g p F ≡ (state_after g p s calls).frame) (on_one E x events L.count) L.frame;
    loaded = subst (λ (F : List Event). AllByRecursion (IsCounted C o F) (loads_of calls)) (on_one E x events L.count) L.loaded;
  }

  carries_on : (E : List Event) (x : Event × Answer) (events : List (Event × Answer)) (calls : List Call) (l : Load) → is_sending x.0 ≡ false → Carries (E ++ x.0 ∷ []) events calls l → Carries E (x ∷ events) calls l
  carries_on E x events calls l no' K = record {
    count = suc K.count;
    asked = K.asked;
    sends = rw no' K.sends;
    latest = ap (λ (F : List Event). latest_by C o l.source F) (sym (on_one E x events K.count)) ∙ K.latest;
  }

  carries_call : (E : List Event) (call : Call) (e : Event) (a : Answer) (events : List (Event × Answer)) (calls : List Call) (l : Load) → is_sending e ≡ true → event_of g call ≡ Some (e, a)
      → Carries (E ++ e ∷ []) events calls l → Carries E ((e, a) ∷ events) (call ∷ calls) l
  carries_call E call e a events calls l sends is K = record {
    count = suc K.count;
    asked = K.asked;
    sends = rw (sends, is) (ap (λ (ys : List (Event × Answer)). (e, a) ∷ ys) K.sends);
    latest = ap (λ (F : List Event). latest_by C o l.source F) (sym (on_one E (e, a) events K.count)) ∙ K.latest;
  }

  -- if no call was made yet
  leads_here : (E : List Event) (cut : ℕ → ℕ) (s : GroupState) (rest : List Proposed) (events : List (Event × Answer)) → At E cut s rest → Leads E s events []
  leads_here E cut s rest events A = record {
    count = 0;
    within = omega arith;
    sends = refl;
    frame = ap (stands_after o g p) (append-nil E) ∙ A.frame;
    loaded = tt;
  }

  -- and if one was
  leads_call : (E : List Event) (s : GroupState) (call : Call) (e : Event) (a : Answer) (events : List (Event × Answer)) (calls : List Call) → is_sending e ≡ true → event_of g call ≡ Some (e, a)
      → AllByRecursion (IsCounted C o E) (loads_in call) → Leads (E ++ e ∷ []) (after g p s call) events calls → Leads E s ((e, a) ∷ events) (call ∷ calls)
  leads_call E s call e a events calls sends is shown L = record {
    count = suc L.count;
    within = omega (arith, L.within);
    sends = rw (sends, is) (ap (λ (ys : List (Event × Answer)). (e, a) ∷ ys) L.sends);
    frame = subst (λ (F : List Event). stands_after o g p F ≡ (state_after g p (after g p s call) calls).frame) (on_one E (e, a) events L.count) L.frame;
    loaded = subst (λ (F : List Event). AllByRecursion (IsCounted C o F) (loads_in call ++ loads_of calls)) (on_one E (e, a) events L.count)
        (all_join (IsCounted C o (on_by (E ++ e ∷ []) events L.count)) (loads_in call) (loads_of calls)
        (counted_on C o (E ++ e ∷ []) (map (λ (y : Event × Answer). y.0) (take L.count events)) (loads_in call) (counted_on C o E (e ∷ []) (loads_in call) shown)) L.loaded);
  }

  put_arrival : (E : List Event) (cut : ℕ → ℕ) (s : GroupState) (rest : List Proposed) (calls : List Call) (r : ℕ) (a : ℕ × ℕ) → At E cut s rest → slice_get (heard r) (cut r) ≡ Some a
      → Next (E ++ Arrive r a.1 ∷ []) (bump r cut) s calls rest → Next E cut s calls rest
  put_arrival E cut s rest calls r a A there N = record {
    events = (Arrive r a.1, Accepted a.0) ∷ N.events;
    reached = λ n. leads_on E (Arrive r a.1, Accepted a.0) s N.events (take n calls) refl (N.reached n);
    carried = λ n c l there loaded. carries_on E (Arrive r a.1, Accepted a.0) N.events (take n calls) l refl (N.carried n c l there loaded);
    so = (arrival_answer C o g p later heard W E cut s rest r a A there, N.so);
    sends = N.sends;
    arrivals = λ q. elim (cases_eq r q) [
      | inl e ↦
          let here : slice_get (heard q) (cut q) ≡ Some a = subst (λ (k : ℕ). slice_get (heard k) (cut k) ≡ Some a) e there in
          let on : bump r cut q ≡ suc (cut q) = rw (eq-eqb r q e) refl in
          rw (eq-eqb r q e) (ap (λ (k : ℕ). (Arrive k a.1, Accepted a.0) ∷ filter (λ x. comes_to q x.0) N.events) e
          ∙ (ap (λ (ys : List (Event × Answer)). (Arrive q a.1, Accepted a.0) ∷ ys) (N.arrivals q ∙ ap (λ (n : ℕ). map (λ b. (Arrive q b.1, Accepted b.0)) (drop n (heard q))) on)
          ∙ ap (map (λ (b : ℕ × ℕ). (Arrive q b.1, Accepted b.0))) (sym (drop_next (heard q) (cut q) a here))))
      | inr n ↦
          let still : bump r cut q ≡ cut q = rw (ne_eqb r q n) refl in
          rw (ne_eqb r q n) (N.arrivals q ∙ ap (λ (m : ℕ). map (λ b. (Arrive q b.1, Accepted b.0)) (drop m (heard q))) still)
    ];
    publications = N.publications;
  }

  put_publish : (E : List Event) (cut : ℕ → ℕ) (s : GroupState) (q : Proposed) (rest : List Proposed) (calls : List Call) → At E cut s (q ∷ rest)
      → Next (E ++ Publish q ∷ []) cut (record s { seen = s.seen ++ q.plan ∷ [] }) calls rest → Next E cut s calls (q ∷ rest)
  put_publish E cut s q rest calls A N = record {
    events = (Publish q, Published q.plan.number) ∷ N.events;
    reached = λ n.
        let L = leads_on E (Publish q, Published q.plan.number) (record s { seen = s.seen ++ q.plan ∷ [] }) N.events (take n calls) refl (N.reached n) in
        record { count = L.count; within = L.within; sends = L.sends; frame = L.frame ∙ frame_same g p s (s.seen ++ q.plan ∷ []) (take n calls); loaded = L.loaded };
    carried = λ n c l there loaded. carries_on E (Publish q, Published q.plan.number) N.events (take n calls) l refl (N.carried n c l there loaded);
    so = (publish_answer_is C o g p later heard W E cut s q rest A, N.so);
    sends = N.sends;
    arrivals = N.arrivals;
    publications = ap (λ (ys : List (Event × Answer)). (Publish q, Published q.plan.number) ∷ ys) N.publications;
  }

  -- the event of a call
  put_call : (E : List Event) (cut : ℕ → ℕ) (s : GroupState) (rest : List Proposed) (call : Call) (calls : List Call) (e : Event) (a : Answer) → At E cut s rest → is_sending e ≡ true → ((r : ℕ) → comes_to r e ≡ false) → is_publish e ≡ false
      → event_of g call ≡ Some (e, a) → answer C o E e ≡ a → AllByRecursion (IsCounted C o E) (loads_in call) → ((c : Carried) (l : Load) → call ≡ Asks (Some c) → c.load ≡ Some l → (e ≡ Cell g) × IsLatest C o E l)
      → Next (E ++ e ∷ []) cut (after g p s call) calls rest → Next E cut s (call ∷ calls) rest
  put_call E cut s rest call calls e a A sends unheard unpublished is told shown own N = record {
    events = (e, a) ∷ N.events;
    reached = reached;
    carried = carried;
    so = (told, N.so);
    sends = rw (sends, is) (ap (λ (ys : List (Event × Answer)). (e, a) ∷ ys) N.sends);
    arrivals = λ r. rw (unheard r) (N.arrivals r);
    publications = rw unpublished N.publications;
  }
    where
      reached : (n : ℕ) → Leads E s ((e, a) ∷ N.events) (take n (call ∷ calls))
      reached zero = leads_here E cut s rest ((e, a) ∷ N.events) A
      reached (suc n) = leads_call E s call e a N.events (take n calls) sends is shown (N.reached n)

      carried : CarriesEach E ((e, a) ∷ N.events) (call ∷ calls)
      carried zero c l there loaded =
          let both = own c l (same_Some call (Asks (Some c)) there) loaded in
          record { count = 0; asked = ap (λ (x : Event). Some x) both.0; sends = refl; latest = ap (λ (F : List Event). latest_by C o l.source F) (append-nil E) ∙ both.1 }
      carried (suc n) c l there loaded = carries_call E call e a N.events (take n calls) l sends is (N.carried n c l there loaded)

  -- ---- several

  -- only the cut of r was moved, to n
  record IsMoved (cut to : ℕ → ℕ) (r n : ℕ) : Type 0 where
    pub here : to r ≡ n
    pub others : (q : ℕ) → (r ≡ q → ⊥) → to q ≡ cut q

  -- n more words come to receiver r
  ahead : (n r : ℕ) (E : List Event) (cut : ℕ → ℕ) (s : GroupState) (rest : List Proposed) (calls : List Call) → cut r + n ≤ length (heard r) → At E cut s rest
      → ((F : List Event) (to : ℕ → ℕ) → At F to s rest → IsMoved cut to r (cut r + n) → IsPrefix E F → Next F to s calls rest) → Next E cut s calls rest
  ahead zero r E cut s rest calls le A go = go E cut A (record { here = omega arith; others = λ q n. refl }) (prefix_self E)
  ahead (suc n) r E cut s rest calls le A go =
      let (a, there) = get_within (heard r) (cut r) (omega (arith, le)) in
      let on : bump r cut r ≡ suc (cut r) = rw (eq-eqb r r refl) refl in
      put_arrival E cut s rest calls r a A there
      (ahead n r (E ++ Arrive r a.1 ∷ []) (bump r cut) s rest calls (omega (arith, on, le)) (arrival_step C o g p later heard W E cut s rest r a A there)
      (λ F to B M P. go F to B (record { here = omega (arith, M.here, on); others = λ q ne. M.others q ne ∙ rw (ne_eqb r q ne) refl }) (prefix_on E (E ++ Arrive r a.1 ∷ []) F (Arrive r a.1 ∷ [], refl) P)))

  -- all words come to receiver r up to the cut n
  up_to : (n r : ℕ) (E : List Event) (cut : ℕ → ℕ) (s : GroupState) (rest : List Proposed) (calls : List Call) → cut r ≤ n → n ≤ length (heard r) → At E cut s rest
      → ((F : List Event) (to : ℕ → ℕ) → At F to s rest → IsMoved cut to r n → IsPrefix E F → Next F to s calls rest) → Next E cut s calls rest
  up_to n r E cut s rest calls low high A go =
      ahead (n - cut r) r E cut s rest calls (omega (arith, low, high)) A (λ F to B M P. go F to B (record { here = omega (arith, M.here, low); others = M.others }) P)

  still_within : (cut to : ℕ → ℕ) (r n : ℕ) → IsMoved cut to r n → n ≤ length (heard r) → ((q : ℕ) → cut q ≤ length (heard q)) → (q : ℕ) → to q ≤ length (heard q)
  still_within cut to r n M high within q = elim (cases_eq r q) [
    | inl e ↦ subst (λ (k : ℕ). to k ≤ length (heard k)) e (omega (arith, M.here, high))
    | inr ne ↦ omega (arith, M.others q ne, within q)
  ]

  -- these plans are published
  publish_all : (more : List Proposed) (E : List Event) (cut : ℕ → ℕ) (s : GroupState) (rest : List Proposed) (calls : List Call) → At E cut s (more ++ rest)
      → ((F : List Event) → At F cut (record s { seen = s.seen ++ map (λ q. q.plan) more }) rest → Next F cut (record s { seen = s.seen ++ map (λ q. q.plan) more }) calls rest) → Next E cut s calls (more ++ rest)
  publish_all [] E cut s rest calls A go =
      subst (λ (qs : List PlanTable). Next E cut (record s { seen = qs }) calls rest) (append-nil s.seen) (go E (subst (λ (qs : List PlanTable). At E cut (record s { seen = qs }) rest) (sym (append-nil s.seen)) A))
  publish_all (q ∷ more) E cut s rest calls A go =
      put_publish E cut s q (more ++ rest) calls A
      (publish_all more (E ++ Publish q ∷ []) cut (record s { seen = s.seen ++ q.plan ∷ [] }) rest calls (publish_step C o g p later heard W E cut s q (more ++ rest) A)
      (λ F B. subst (λ (qs : List PlanTable). Next F cut (record s { seen = qs }) calls rest) (sym (append_assoc s.seen (q.plan ∷ []) (map (λ x. x.plan) more)))
      (go F (subst (λ (qs : List PlanTable). At F cut (record s { seen = qs }) rest) (append_assoc s.seen (q.plan ∷ []) (map (λ x. x.plan) more)) B))))

  -- all that is left to come, of the receivers below k and of the plans
  finish : (k : ℕ) (E : List Event) (cut : ℕ → ℕ) (s : GroupState) (rest : List Proposed) → At E cut s rest → ((r : ℕ) → cut r ≤ length (heard r)) → ((r : ℕ) → k ≤ r → drop (cut r) (heard r) ≡ []) → Next E cut s [] rest
  finish zero E cut s rest A within done =
      subst (Next E cut s []) (append-nil rest) (publish_all rest E cut s [] [] (subst (At E cut s) (sym (append-nil rest)) A) (λ F B. record {
        events = [];
        carried = λ n c l there loaded. absurd (none-some (Asks (Some c)) there);
        reached = λ n. subst (Leads F (record s { seen = s.seen ++ map (λ q. q.plan) rest }) []) (sym (take-nil n)) (leads_here F cut (record s { seen = s.seen ++ map (λ q. q.plan) rest }) [] [] B);
        so = tt;
        sends = refl;
        arrivals = λ r. ap (map (λ (a : ℕ × ℕ). (Arrive r a.1, Accepted a.0))) (sym (done r (omega arith)));
        publications = refl;
      }))
  finish (suc k) E cut s rest A within done =
      let all : length (heard k) ≤ length (heard k) = omega arith in
      up_to (length (heard k)) k E cut s rest [] (within k) all A (λ F to B M P.
      finish k F to s rest B (still_within cut to k (length (heard k)) M all within)
      (λ r low. elim (cases_eq k r) [
        | inl e ↦ subst (λ (q : ℕ). drop (to q) (heard q) ≡ []) e (drop_all (to k) (heard k) (omega (arith, M.here)))
        | inr ne ↦ ap (λ (m : ℕ). drop m (heard r)) (M.others r ne) ∙ done r (omega (arith, low, ne))
      ]))

  -- ---- loads

  -- the source of a load is of one receiver, whose list shows the load at a cut; the cuts of the others stay
  show_load : (l : Load) (ls : List Load) (E : List Event) (cut : ℕ → ℕ) (s : GroupState) (rest : List Proposed) (calls : List Call) → l.source < length o.proposal.station.sources → IsOn E cut s rest (l ∷ ls)
      → ((F : List Event) (to : ℕ → ℕ) → IsOn F to s rest ls → IsLatest C o F l → IsPrefix E F → Next F to s calls rest) → Next E cut s calls rest
  show_load l ls E cut s rest calls known On go =
      let t = o.proposal.station in
      let (row, there) = get_within t.sources l.source known in
      let r = row.receiver in
      let lt : r < length t.receivers = W.known l.source row there in
      let mine : is_of t r l.source ≡ true = rw (there, eq-eqb r r refl) refl in
      let agrees = On.agree r lt in
      let n = agrees.1.0 in
      let shown : IsCutOfLoad true (heard r) (cut r) l n = subst (λ b. IsCutOfLoad b (heard r) (cut r) l n) mine agrees.1.1 in
      up_to n r E cut s rest calls shown.0 shown.1 On.at (λ F to B M P.
      let words : accepted_by C o l.source F ≡ words_of l.source (take n (heard r)) =
      accepted_here C o g p later heard W F to s rest l.source r row B there refl ∙ ap (λ (m : ℕ). words_of l.source (take m (heard r))) M.here in
      let latest : IsLatest C o F l = ap (λ (ws : List ℕ). (length ws, last_of ws)) words ∙ ap (λ (k : Load). (k.count, k.word)) (sym shown.2) in
      go F to (record {
        at = B;
        within = still_within cut to r n M shown.1 On.within;
        agree = λ q less. elim (cases_eq r q) [
          | inl e ↦
              subst (λ (k : ℕ). (last : ℕ) × Cuts (is_of t k) (heard k) (to k) ls last) e
              (subst (λ (m : ℕ). (last : ℕ) × Cuts (is_of t r) (heard r) m ls last) (sym M.here) (agrees.0, agrees.1.2))
          | inr ne ↦
              let theirs = On.agree q less in
              let off : is_of t q l.source ≡ false = rw (there, ne_eqb r q ne) refl in
              let stays : IsCutOfLoad false (heard q) (cut q) l theirs.1.0 = subst (λ b. IsCutOfLoad b (heard q) (cut q) l theirs.1.0) off theirs.1.1 in
              subst (λ (m : ℕ). (last : ℕ) × Cuts (is_of t q) (heard q) m ls last) (sym (M.others q ne ∙ stays)) (theirs.0, theirs.1.2)
        ];
      }) latest P)

  -- then its source has as many words as it counted
  counts : (F : List Event) (l : Load) → IsLatest C o F l → IsCounted C o F l
  counts F l latest = omega (arith, ap (λ (x : ℕ × Option ℕ). x.0) latest)

  show_loads : (loads ls : List Load) (E : List Event) (cut : ℕ → ℕ) (s : GroupState) (rest : List Proposed) (calls : List Call) → AllByRecursion (λ l. l.source < length o.proposal.station.sources) loads → IsOn E cut s rest (loads ++ ls)
      → ((F : List Event) (to : ℕ → ℕ) → IsOn F to s rest ls → AllByRecursion (IsCounted C o F) loads → IsPrefix E F → Next F to s calls rest) → Next E cut s calls rest
  show_loads [] ls E cut s rest calls known On go = go E cut On tt (prefix_self E)
  show_loads (l ∷ loads) ls E cut s rest calls known On go =
      show_load l (loads ++ ls) E cut s rest calls known.0 On (λ F to B latest P.
      show_loads loads ls F to s rest calls known.1 B (λ G again D all Q. go G again D ((counted_along C o F G (l ∷ []) Q (counts F l latest, tt)).0, all) (prefix_on E F G P Q)))

  show_one : (x : Option Load) (ls : List Load) (E : List Event) (cut : ℕ → ℕ) (s : GroupState) (rest : List Proposed) (calls : List Call) → AllByRecursion (λ l. l.source < length o.proposal.station.sources) (option_to_list x)
      → IsOn E cut s rest (option_to_list x ++ ls) → ((F : List Event) (to : ℕ → ℕ) → IsOn F to s rest ls → ((l : Load) → x ≡ Some l → IsLatest C o F l) → AllByRecursion (IsCounted C o F) (option_to_list x) → Next F to s calls rest) → Next E cut s calls rest
  show_one None ls E cut s rest calls known On go = go E cut On (λ l h. absurd (none-some l h)) tt
  show_one (Some l) ls E cut s rest calls known On go = show_load l ls E cut s rest calls known.0 On (λ F to B latest P. go F to B (λ k h. subst (IsLatest C o F) (same_Some l k h) latest) (counts F l latest, tt))

  -- ---- call by call

  on_from : (E F : List Event) (cut : ℕ → ℕ) (s r : GroupState) (rest left : List Proposed) (loads : List Load) → IsOn E cut s rest loads → At F cut r left → IsOn F cut r left loads
  on_from E F cut s r rest left loads On A = record { at = A; within = On.within; agree = On.agree }

  -- a change: first come the plans that were newly seen
  change_goes : (E : List Event) (cut : ℕ → ℕ) (s : GroupState) (more rest : List Proposed) (plans : List PlanTable) (t : Turn) (calls : List Call) → s.seen ++ map (λ q. q.plan) more ≡ plans → t ≡ turn g p s plans → At E cut s (more ++ rest)
      → ((F : List Event) → At F cut (after_turn g p s plans t) rest → Next F cut (after_turn g p s plans t) calls rest) → Next E cut s (Turns plans t ∷ calls) (more ++ rest)
  change_goes E cut s more rest plans t calls grown is A go =
      publish_all more E cut s rest (Turns plans t ∷ calls) A (λ F B.
      let s' : GroupState = record s { seen = plans } in
      let B' : At F cut s' rest = subst (λ (qs : List PlanTable). At F cut (record s { seen = qs }) rest) grown B in
      let T : Steps.IsTurned C o g p later heard W F cut s' rest t = subst (Steps.IsTurned C o g p later heard W F cut s' rest) (sym is) (turn_step C o g p later heard W F cut s' rest B') in
      let s1 : GroupState = record s { seen = s.seen ++ map (λ q. q.plan) more } in
      put_call F cut s1 rest (Turns plans t) calls (Frame g) (turn_answer t) B refl (λ r. refl) refl refl T.answer tt (λ c l is loaded. absurd (cc))
      (subst (λ (r : GroupState). Next (F ++ Frame g ∷ []) cut r calls rest) (sym (turned_same g p s s1.seen plans t))
      (go (F ++ Frame g ∷ []) (subst (λ (r : GroupState). At (F ++ Frame g ∷ []) cut r rest) (turned_same g p s plans plans t) T.after))))

  same_asked : (c d : Carried) → Asks (Some c) ≡ Asks (Some d) → c ≡ d
  same_asked c d is = cc

  after_meeting : (F : List Event) (loads : List Load) (calls : List Call) (events : List (Event × Answer)) → CarriesEach F events calls → CarriesEach F events (Meets loads ∷ calls)
  after_meeting F loads calls events each zero c l there loaded = let no' : Meets loads ≡ Asks (Some c) = same_Some (Meets loads) (Asks (Some c)) there in absurd (cc)
  after_meeting F loads calls events each (suc n) c l there loaded = let K = each n c l there loaded in record { count = K.count; asked = K.asked; sends = K.sends; latest = K.latest }

  -- a meeting adds no event
  meeting : (F : List Event) (cut : ℕ → ℕ) (s : GroupState) (rest : List Proposed) (loads : List Load) (calls : List Call) (events : List (Event × Answer)) → At F cut s rest → AllByRecursion (IsCounted C o F) loads
      → ((n : ℕ) → Leads F s events (take n calls)) → (n : ℕ) → Leads F s events (take n (Meets loads ∷ calls))
  meeting F cut s rest loads calls events A shown leads zero = leads_here F cut s rest events A
  meeting F cut s rest loads calls events A shown leads (suc n) =
      let L = leads n in
      record {
        count = L.count;
        within = L.within;
        sends = L.sends;
        frame = L.frame;
        loaded = all_join (IsCounted C o (on_by F events L.count)) loads (loads_of (take n calls)) (counted_on C o F (map (λ (y : Event × Answer). y.0) (take L.count events)) loads shown) L.loaded;
      }

  goes : (calls : List Call) (E : List Event) (cut : ℕ → ℕ) (s : GroupState) (rest : List Proposed) → IsOn E cut s rest (loads_of calls) → AreLawful g p s calls
      → IsPrefix (state_after g p s calls).seen (s.seen ++ map (λ q. q.plan) rest) → AllByRecursion (λ l. l.source < length o.proposal.station.sources) (loads_of calls) → Next E cut s calls rest
  goes [] E cut s rest On lawful seen known =
      finish (length o.proposal.station.receivers) E cut s rest On.at On.within (λ r past. drop_all (cut r) (heard r) (omega (arith, ap (λ (l : List (ℕ × ℕ)). length l) (W.accepted.others r past))))
  goes (Asks None ∷ calls) E cut s rest On lawful seen known =
      put_call E cut s rest (Asks None) calls (Cell g) (Refused FrameEnd) On.at refl (λ r. refl) refl refl (end_answer C o g p later heard W E cut s rest On.at lawful.0) tt (λ d l is loaded. absurd (cc))
      (goes calls (E ++ Cell g ∷ []) cut s rest (on_from E (E ++ Cell g ∷ []) cut s s rest rest (loads_of calls) On (end_step C o g p later heard W E cut s rest On.at lawful.0)) lawful.1 seen known)
  goes (Asks (Some c) ∷ calls) E cut s rest On lawful seen known =
      let (own, others) = all_parts (λ (l : Load). l.source < length o.proposal.station.sources) (option_to_list c.load) (loads_of calls) known in
      let s' = after g p s (Asks (Some c)) in
      show_one c.load (loads_of calls) E cut s rest (Asks (Some c) ∷ calls) own On (λ F to B latest shown.
      put_call F to s rest (Asks (Some c)) calls (Cell g) (Sent c.bus c.slot c.word) B.at refl (λ r. refl) refl refl (cell_answer_is C o g p later heard W F to s rest c B.at lawful.0 latest) shown (λ d l is loaded. (refl, latest l (ap (λ (x : Carried). x.load) (same_asked c d is) ∙ loaded)))
      (goes calls (F ++ Cell g ∷ []) to s' rest (on_from F (F ++ Cell g ∷ []) to s s' rest rest (loads_of calls) B (cell_step C o g p later heard W F to s rest c B.at lawful.0 latest)) lawful.1 seen others))
  goes (Meets loads ∷ calls) E cut s rest On lawful seen known =
      let (own, others) = all_parts (λ (l : Load). l.source < length o.proposal.station.sources) loads (loads_of calls) known in
      show_loads loads (loads_of calls) E cut s rest (Meets loads ∷ calls) own On (λ F to B shown P.
      let N = goes calls F to s rest B lawful.1 seen others in
      record { events = N.events; reached = meeting F to s rest loads calls N.events B.at shown N.reached; carried = after_meeting F loads calls N.events N.carried; so = N.so; sends = N.sends; arrivals = N.arrivals; publications = N.publications })
  goes (Turns plans t ∷ calls) E cut s rest On lawful seen known =
      let s' = after_turn g p s plans t in
      let end = state_after g p s' calls in
      let now : s'.seen ≡ plans = turned_seen g p s plans t in
      let S = newly_seen (λ (q : Proposed). q.plan) s.seen plans end.seen rest lawful.0.0 (subst (λ (qs : List PlanTable). IsPrefix qs end.seen) now (seen_on g p s' calls lawful.1)) seen in
      let still = subst (λ (qs : List PlanTable). IsPrefix end.seen (qs ++ map (λ q. q.plan) S.back)) (sym now) S.still in
      let whole : rest ≡ S.front ++ S.back = S.whole in
      subst (Next E cut s (Turns plans t ∷ calls)) (sym whole)
      (change_goes E cut s S.front S.back plans t calls S.grown lawful.0.1 (subst (At E cut s) whole On.at)
      (λ F B. goes calls F cut s' S.back (on_from E F cut s s' rest S.back (loads_of calls) On B) lawful.1 still known))

-- from the opening on
reached_by : (C : ℕ) (o : Opening) (g : ℕ) (p : SlotTable) (later : List Proposed) (heard : ℕ → List (ℕ × ℕ)) (W : Given C o g p later heard) (calls : List Call) (events : List (Event × Answer)) (n : ℕ) → AreTold C o [] events
    → Leads C o g p later heard W [] (before_calls o.proposal.plan p o.first) events (take n calls) → HavePlace C o g p (take n calls) (map (λ x. x.0) events)
reached_by C o g p later heard W calls events n told L =
    let first : take L.count (map (λ (x : Event × Answer). x.0) events) ≡ map (λ (x : Event × Answer). x.0) (take L.count events) = take-map (λ (x : Event × Answer). x.0) L.count events in
    let so : answered C o (map (λ (x : Event × Answer). x.0) (take L.count events)) ≡ take L.count events = told_so C o [] (take L.count events) (told_first C o [] L.count events told) in
    record {
      place = L.count;
      within = omega (arith, L.within, length-map events (λ (x : Event × Answer). x.0));
      sends = ap (λ (F : List Event). filter (λ (x : Event × Answer). is_sending x.0) (answered C o F)) first ∙ (ap (filter (λ (x : Event × Answer). is_sending x.0)) so ∙ L.sends);
      frame = ap (stands_after o g p) first ∙ L.frame;
      loaded = subst (λ (F : List Event). AllByRecursion (IsCounted C o F) (loads_of (take n calls))) (sym first) L.loaded;
    }

carried_by : (C : ℕ) (o : Opening) (g : ℕ) (p : SlotTable) (later : List Proposed) (heard : ℕ → List (ℕ × ℕ)) (W : Given C o g p later heard) (calls : List Call) (events : List (Event × Answer)) (n : ℕ) (l : Load) → AreTold C o [] events
    → Carries C o g p later heard W [] events (take n calls) l → HasCellPlace C o g (take n calls) l (map (λ x. x.0) events)
carried_by C o g p later heard W calls events n l told K =
    let first : take K.count (map (λ (x : Event × Answer). x.0) events) ≡ map (λ (x : Event × Answer). x.0) (take K.count events) = take-map (λ (x : Event × Answer). x.0) K.count events in
    let so : answered C o (map (λ (x : Event × Answer). x.0) (take K.count events)) ≡ take K.count events = told_so C o [] (take K.count events) (told_first C o [] K.count events told) in
    record {
      place = K.count;
      asked = slice_get-map (λ (x : Event × Answer). x.0) events K.count ∙ K.asked;
      sends = ap (λ (F : List Event). filter (λ (x : Event × Answer). is_sending x.0) (answered C o F)) first ∙ (ap (filter (λ (x : Event × Answer). is_sending x.0)) so ∙ K.sends);
      latest = ap (λ (F : List Event). latest_by C o l.source F) first ∙ K.latest;
    }

IsAt-before_calls : (C : ℕ) (o : Opening) (g : ℕ) (p : SlotTable) (later : List Proposed) (heard : ℕ → List (ℕ × ℕ)) → IsAt C o g p later heard [] (λ r. 0) (before_calls o.proposal.plan p o.first) later
IsAt-before_calls C o g p later heard =
    let none : min 0 (cells_of p) ≡ 0 = omega arith in
    record { arrivals = λ r. refl; seen = refl; left = refl; frame = rw none refl; earlier = refl }

pub has_run : (C : ℕ) (o : Opening) (g : ℕ) (p : SlotTable) (later : List Proposed) (calls : List Call) (heard : ℕ → List (ℕ × ℕ)) → Below o.proposal.station → IsWorking C o g p later calls heard → CallsAreOneRun C o g later calls heard
has_run C o g p later calls heard below H =
    let W : Given C o g p later heard = record { below = below; known = H.wired.received; opens = H.opens; plans = H.published; accepted = H.accepted } in
    let first = before_calls o.proposal.plan p o.first in
    let N = goes C o g p later heard W calls [] (λ r. 0) first later (record { at = IsAt-before_calls C o g p later heard; within = λ r. omega arith; agree = H.agree }) H.lawful H.seen H.known in
    let so : answered C o (map (λ x. x.0) N.events) ≡ N.events = told_so C o [] N.events N.so in
    record {
      events = map (λ x. x.0) N.events;
      is = record {
        sends = ap (filter (λ (x : Event × Answer). is_sending x.0)) so ∙ N.sends;
        arrivals = λ r. ap (filter (λ (x : Event × Answer). comes_to r x.0)) so ∙ N.arrivals r;
        publications = ap (filter (λ (x : Event × Answer). is_publish x.0)) so ∙ N.publications;
        places = λ q n there. subst (λ (t : SlotTable). HavePlace C o g t (take n calls) (map (λ x. x.0) N.events)) (same_Some p q (sym H.opens ∙ there))
            (reached_by C o g p later heard W calls N.events n N.so (N.reached n));
        cells = λ n c l there loaded. carried_by C o g p later heard W calls N.events n l N.so (N.carried n c l there loaded);
      };
    }
