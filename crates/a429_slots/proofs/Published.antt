-- The origin of the plans in force.
use Rattle.std.proofs.Common.{◌≡◌, ℕ, ◌+◌, ◌<◌, ◌≤◌, true, false, List, [], ◌∷◌, ◌++◌, length, take, ◌∙◌, sym, ap, subst, refl, inl, inr, ◌⊎◌, arith, append-nil, append_assoc}
use Rattle.std.specs.Prelude.{Option, Some, None, filter_map, slice_get, unwrap_or}
use Rattle.std.specs.Option.{option_map_or}
use Rattle.std.proofs.lemmas.List.{length_push, take-append-le, take_all}
use Rattle.std.proofs.lemmas.List.Elements.{filter_map-append}
use Rattle.std.proofs.lemmas.Bool.{cases_Bool, cases_lt}
use Rattle.a429_word.proofs.Lists.{none_cut}
use Rattle.a429_equipment.specs.SameStation.{same_station}
use Rattle.a429_slots.specs.Tables.{SlotTable, PlanTable, groups_of}
use Rattle.a429_slots.specs.Proposed.{Proposed}
use Rattle.a429_slots.specs.Events.{Event, Arrive, Cell, Frame, Publish}
use Rattle.a429_slots.specs.History.{Opening, Current, current, last_of, proposal_for, published, numbers_left, newest_number, newest_table}
use Rattle.a429_slots.specs.TakenFrames.{is_taken_after, IsPublished, IsPublishedPlan, IsOpeningPlan, HasPublished, HasOpening, IsSameFrame}
use Rattle.a429_slots.proofs.Histories.{by_ends, same_frame, new_frame}
use Rattle.a429_equipment.proofs.Cutting.{last_push}

-- ---- the newest plan

-- a history that goes on keeps what was published
IsPublished-push : (o : Opening) (E : List Event) (e : Event) (q : Proposed) (n : ℕ) → IsPublished o E q n → IsPublished o (E ++ e ∷ []) q n
IsPublished-push o E e q n P = record {
  before = P.before;
  after = P.after ++ e ∷ [];
  split = ap (λ (F : List Event). F ++ e ∷ []) P.split ∙ append_assoc P.before (Publish q ∷ P.after) (e ∷ []);
  same = P.same;
  next_number = P.next_number;
  countable = P.countable;
}

abbrev all_of : Opening → List Event → List Proposed
all_of o E = filter_map (proposal_for o) E

plan_of : Opening → List Proposed → PlanTable
plan_of o qs = option_map_or (λ q. q.plan) (last_of qs) o.proposal.plan

-- the newest plan is the opening one, or was published
Origin : Opening → List Event → Type 0
Origin o E = IsOpeningPlan o E ⊎ IsPublishedPlan o E

-- an event that publishes nothing
Origin-same_published : (o : Opening) (E : List Event) (e : Event) → published o (E ++ e ∷ []) ≡ published o E → Origin o E → Origin o (E ++ e ∷ [])
unfolding Origin
Origin-same_published o E e same (inl P) = inl (record { number = ap (λ (qs : List Proposed). o.proposal.plan.number + length qs) same ∙ P.number; plan = ap (λ (qs : List Proposed). option_map_or (λ q. q.plan) (last_of qs) o.proposal.plan) same ∙ P.plan })
Origin-same_published o E e same (inr P) = inr (record {
  proposal = P.proposal;
  published = subst (IsPublished o (E ++ e ∷ []) P.proposal) (ap (λ (qs : List Proposed). o.proposal.plan.number + length qs) (sym same)) (IsPublished-push o E e P.proposal (newest_number o E) P.published);
  plan = ap (λ (qs : List Proposed). option_map_or (λ q. q.plan) (last_of qs) o.proposal.plan) same ∙ P.plan;
})

-- one that publishes q
Origin-published : (o : Opening) (E : List Event) (q : Proposed) → same_station o.proposal.station q.station ≡ true → length (all_of o E) < numbers_left o → Origin o (E ++ Publish q ∷ [])
unfolding Origin
Origin-published o E q same room =
    let more : all_of o (E ++ Publish q ∷ []) ≡ all_of o E ++ q ∷ [] = filter_map-append (proposal_for o) E (Publish q ∷ []) ∙ rw same refl in
    let long : length (all_of o E ++ q ∷ []) ≡ length (all_of o E) + 1 = length_push (all_of o E) q in
    let before : published o E ≡ all_of o E = take_all (numbers_left o) (all_of o E) (omega (arith, room)) in
    let after : published o (E ++ Publish q ∷ []) ≡ all_of o E ++ q ∷ [] = ap (take (numbers_left o)) more ∙ take_all (numbers_left o) (all_of o E ++ q ∷ []) (omega (arith, room, long)) in
    let number : newest_number o (E ++ Publish q ∷ []) ≡ newest_number o E + 1 = omega (arith, ap (λ (qs : List Proposed). length qs) after, long, ap (λ (qs : List Proposed). length qs) before) in
    inr (record {
      proposal = q;
      published = record {
        before = E;
        after = [];
        split = refl;
        same = same;
        next_number = number;
        countable = omega (arith, number, room, ap (λ (qs : List Proposed). length qs) before);
      };
      plan = ap (λ (qs : List Proposed). option_map_or (λ r. r.plan) (last_of qs) o.proposal.plan) after ∙ ap (λ (x : Option Proposed). option_map_or (λ r. r.plan) x o.proposal.plan) (last_push (all_of o E) q);
    })

-- one whose number could not be counted
published-spent : (o : Opening) (E : List Event) (e : Event) → numbers_left o ≤ length (all_of o E) → published o (E ++ e ∷ []) ≡ published o E
published-spent o E e full = ap (take (numbers_left o)) (filter_map-append (proposal_for o) E (e ∷ [])) ∙ take-append-le (numbers_left o) (all_of o E) (filter_map (proposal_for o) (e ∷ [])) full

published-no_proposal : (o : Opening) (E : List Event) (e : Event) → proposal_for o e ≡ None → published o (E ++ e ∷ []) ≡ published o E
published-no_proposal o E e h = ap (take (numbers_left o)) (filter_map-append (proposal_for o) E (e ∷ []) ∙ rw h (append-nil (all_of o E)))

origin_next : (o : Opening) (E : List Event) (e : Event) → Origin o E → Origin o (E ++ e ∷ [])
origin_next o E (Arrive r raw) P = Origin-same_published o E (Arrive r raw) (published-no_proposal o E (Arrive r raw) refl) P
origin_next o E (Cell g) P = Origin-same_published o E (Cell g) (published-no_proposal o E (Cell g) refl) P
origin_next o E (Frame g) P = Origin-same_published o E (Frame g) (published-no_proposal o E (Frame g) refl) P
origin_next o E (Publish q) P = elim (cases_Bool (same_station o.proposal.station q.station)) [
  | inl same ↦ elim (cases_lt (length (all_of o E)) (numbers_left o)) [
    | inl room ↦ Origin-published o E q same room
    | inr full ↦ Origin-same_published o E (Publish q) (published-spent o E (Publish q) full) P
  ]
  | inr other ↦ Origin-same_published o E (Publish q) (published-no_proposal o E (Publish q) (rw other refl)) P
]

Origin-nil : (o : Opening) → Origin o []
unfolding Origin
Origin-nil o = inl (record {
  number = let none = ap (λ (qs : List Proposed). length qs) (none_cut (numbers_left o)) in omega (arith, none);
  plan = ap (λ (qs : List Proposed). option_map_or (λ q. q.plan) (last_of qs) o.proposal.plan) (none_cut (numbers_left o));
})

origin : (o : Opening) (E : List Event) → Origin o E
origin o = by_ends (Origin o) (Origin-nil o) (origin_next o)

pub newest_is : (o : Opening) (E : List Event) → IsOpeningPlan o E ⊎ IsPublishedPlan o E
unfolding Origin
newest_is o E = origin o E

-- ---- the plan in force

-- what goes on with the same frame keeps its plan
kept : (o : Opening) (g : ℕ) (p : SlotTable) (E : List Event) (e : Event) (f h : Current) → IsSameFrame f h → HasOpening o p f ⊎ HasPublished o g p E f → HasOpening o p h ⊎ HasPublished o g p (E ++ e ∷ []) h
kept o g p E e f h same (inl P) = inl (record { number = same.number ∙ P.number; table = same.table ∙ P.table })
kept o g p E e f h same (inr P) = inr (record {
  proposal = P.proposal;
  published = subst (IsPublished o (E ++ e ∷ []) P.proposal) (sym same.number) (IsPublished-push o E e P.proposal f.number P.published);
  table = same.table ∙ P.table;
})

-- a new frame has the newest plan
given : (o : Opening) (g : ℕ) (p : SlotTable) (E : List Event) (e : Event) (h : Current) → slice_get (groups_of o.proposal.plan) g ≡ Some p → h.number ≡ newest_number o E → h.table ≡ newest_table o g p E
    → Origin o E → HasOpening o p h ⊎ HasPublished o g p (E ++ e ∷ []) h
unfolding Origin
given o g p E e h there number table (inl P) = inl (record {
  number = number ∙ P.number;
  table = table ∙ (ap (λ (t : PlanTable). unwrap_or (slice_get (groups_of t) g) p) P.plan ∙ ap (λ (x : Option SlotTable). unwrap_or x p) there);
})
given o g p E e h there number table (inr P) = inr (record {
  proposal = P.proposal;
  published = subst (IsPublished o (E ++ e ∷ []) P.proposal) (sym number) (IsPublished-push o E e P.proposal (newest_number o E) P.published);
  table = table ∙ ap (λ (t : PlanTable). unwrap_or (slice_get (groups_of t) g) p) P.plan;
})

pub current-not_taken : (o : Opening) (g : ℕ) (p : SlotTable) (E : List Event) (e : Event) → is_taken_after o g p E e ≡ false → IsSameFrame (current o g p E) (current o g p (E ++ e ∷ []))
current-not_taken o g p E e h =
    let now = same_frame o g p E e h in
    record { table = ap (λ (c : Current). c.table) now; number = ap (λ (c : Current). c.number) now; first = ap (λ (c : Current). c.first) now }

pub came_from : (o : Opening) (g : ℕ) (p : SlotTable) (E : List Event) → slice_get (groups_of o.proposal.plan) g ≡ Some p → HasOpening o p (current o g p E) ⊎ HasPublished o g p E (current o g p E)
came_from o g p E there = by_ends (λ F. HasOpening o p (current o g p F) ⊎ HasPublished o g p F (current o g p F)) (inl (record { number = refl; table = refl })) (λ F e P. elim (cases_Bool (is_taken_after o g p F e)) [
  | inl taken ↦
      let now = new_frame o g p F e taken in
      given o g p F e (current o g p (F ++ e ∷ [])) there (ap (λ (c : Current). c.number) now) (ap (λ (c : Current). c.table) now) (origin o F)
  | inr left ↦ kept o g p F e (current o g p F) (current o g p (F ++ e ∷ [])) (current-not_taken o g p F e left) P
]) E
