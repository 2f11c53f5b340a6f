-- Accepted words and answered cells along a history, and what stays while the opening plan is in force.
use Rattle.std.proofs.Common.{◌≡◌, ◌∙◌, ℕ, zero, suc, ◌+◌, ◌-◌, ◌<◌, ◌≤◌, Bool, true, false, List, [], ◌∷◌, ◌++◌, length, take, map, sym, ap, subst, refl, inl, inr, arith}
use Rattle.std.specs.Prelude.{Option, Some, None, ◌&&◌, ◌||◌, count_by, filter, if◌then◌else◌, option_and_then, option_map, slice_get}
use Rattle.std.proofs.lemmas.List.{take_all}
use Rattle.std.proofs.lemmas.List.Sums.{sum_by-cons}
use Rattle.std.proofs.lemmas.Option.{none-some, same_Some, slice_get_cases, slice_get_within}
use Rattle.a429_equipment.specs.Arrivals.{SourcesAreApart}
use Rattle.a429_slots.specs.Tables.{Placed, SlotTable, output_in}
use Rattle.a429_slots.specs.Events.{Event, Cell}
use Rattle.a429_slots.specs.History.{AnsweredCell, Opening, OpensWith, accepted_by, answered_cell, answered_cells, cell_due, current}
use Rattle.a429_slots.specs.Spacing.{IsOutputCell, answered_at, number_at}
use Rattle.a429_slots.specs.TakenFrames.{HasOpeningOrPublished}
use Rattle.a429_slots.specs.Answers.{answer}
use Rattle.a429_slots.proofs.Answered.{event_at, next_of}
use Rattle.a429_slots.proofs.Following.{IsLater, frame_at_place, later_at}
use Rattle.a429_slots.proofs.Histories.{take_following}
use Rattle.a429_slots.proofs.SamePlan.{number_later}
use Rattle.a429_core.specs.Histories.{history_of}
use Rattle.a429_core.proofs.Accepting.{Does, does}
use Rattle.a429_callers.specs.SlotBoxes.{KeepsOpeningPlan, OpeningPlanStays}

-- ---- lists

get_first : {A : Type 0} (xs ys : List A) (i : ℕ) → i < length xs → slice_get (xs ++ ys) i ≡ slice_get xs i
get_first [] ys i lt = absurd (omega (arith, lt))
get_first (x ∷ xs) ys zero lt = refl
get_first (x ∷ xs) ys (suc i) lt = get_first xs ys i (omega (arith, lt))

pub count_first : {A : Type 0} (p : A → Bool) (x : A) (xs : List A) → count_by p (x ∷ xs) ≡ (if p x then 1 else 0) + count_by p xs
count_first p x xs = sum_by-cons (λ y. if p y then 1 else 0) x xs

-- those that pass two tests are those that pass the second, of those that pass the first
pub count_kept : {A : Type 0} (p q : A → Bool) (xs : List A) → count_by (λ c. p c && q c) xs ≡ count_by q (filter p xs)
count_kept p q [] = refl
count_kept {A} p q (x ∷ xs) = count_first (λ c. p c && q c) x xs ∙ by_test (p x) (count_kept p q xs)
  where
    by_test : (b : Bool) → count_by (λ c. p c && q c) xs ≡ count_by q (filter p xs)
        → (if b && q x then 1 else 0) + count_by (λ c. p c && q c) xs ≡ count_by q (if b then x ∷ filter p xs else filter p xs)
    by_test true rest = ap (λ (n : ℕ). (if q x then 1 else 0) + n) rest ∙ sym (count_first q x (filter p xs))
    by_test false rest = omega (arith, rest)

pub count_map : {A B : Type 0} (q : B → Bool) (f : A → B) (xs : List A) → count_by q (map f xs) ≡ count_by (λ a. q (f a)) xs
count_map q f [] = refl
count_map q f (x ∷ xs) = count_first q (f x) (map f xs) ∙ (ap (λ (n : ℕ). (if q (f x) then 1 else 0) + n) (count_map q f xs) ∙ sym (count_first (λ a. q (f a)) x xs))

pub or_right : (a : Bool) → (a || true) ≡ true
or_right true = refl
or_right false = refl

pub and_right : (a : Bool) → (a && false) ≡ false
and_right true = refl
and_right false = refl

-- ---- accepted words stay in their places

next_word : (C : ℕ) (o : Opening) (E : List Event) (source : ℕ) (e : Event) (i : ℕ) → i < length (accepted_by C o source E) → Does C o E source e (answer C o E e)
    → (i < length (accepted_by C o source (E ++ e ∷ []))) × (slice_get (accepted_by C o source E) i ≡ slice_get (accepted_by C o source (E ++ e ∷ [])) i)
unfolding Does
next_word C o E source e i lt (inl G) =
    let is : slice_get (accepted_by C o source (E ++ e ∷ [])) i ≡ slice_get (accepted_by C o source E) i = ap (λ (ws : List ℕ). slice_get ws i) G.more ∙ get_first (accepted_by C o source E) (G.word ∷ []) i lt in
    elim (slice_get_cases (accepted_by C o source E) i).1 [
      | inl hit ↦ (slice_get_within (accepted_by C o source (E ++ e ∷ [])) i hit.0 (is ∙ hit.2), sym is)
      | inr miss ↦ absurd (omega (arith, lt, miss.0))
    ]
next_word C o E source e i lt (inr S) = (subst (λ (ws : List ℕ). i < length ws) (sym S.same) lt, ap (λ (ws : List ℕ). slice_get ws i) (sym S.same))

words_by : (C : ℕ) (o : Opening) (E : List Event) (source k d i : ℕ) → SourcesAreApart o.proposal.station.sources → d + k ≤ length E → i < length (accepted_by C o source (take k E))
    → (i < length (accepted_by C o source (take (d + k) E))) × (slice_get (accepted_by C o source (take k E)) i ≡ slice_get (accepted_by C o source (take (d + k) E)) i)
words_by C o E source k zero i apart few lt =
    let same : zero + k ≡ k = omega arith in
    subst (λ (m : ℕ). (i < length (accepted_by C o source (take m E))) × (slice_get (accepted_by C o source (take k E)) i ≡ slice_get (accepted_by C o source (take m E)) i)) (sym same) (lt, refl)
words_by C o E source k (suc d) i apart few lt =
    let on : suc d + k ≡ suc (d + k) = omega arith in
    let (e, there) = event_at E (d + k) (omega (arith, few)) in
    let before = words_by C o E source k d i apart (omega (arith, few)) lt in
    let after = next_word C o (take (d + k) E) source e i before.0 (does C o (take (d + k) E) source e apart) in
    let more : take (suc d + k) E ≡ take (d + k) E ++ e ∷ [] = ap (λ (m : ℕ). take m E) on ∙ take_following E (d + k) e there in
    subst (λ (F : List Event). (i < length (accepted_by C o source F)) × (slice_get (accepted_by C o source (take k E)) i ≡ slice_get (accepted_by C o source F) i)) (sym more)
    (after.0, before.1 ∙ after.1)

pub words_stay : (C : ℕ) (o : Opening) (E : List Event) (source k i : ℕ) → SourcesAreApart o.proposal.station.sources → k ≤ length E → i < length (accepted_by C o source (take k E))
    → slice_get (accepted_by C o source (take k E)) i ≡ slice_get (accepted_by C o source E) i
words_stay C o E source k i apart few lt =
    let rest : (length E - k) + k ≡ length E = omega (arith, few) in
    let all : take (length E - k + k) E ≡ E = ap (λ (m : ℕ). take m E) rest ∙ take_all (length E) E (omega arith) in
    (words_by C o E source k (length E - k) i apart (omega (arith, few)) lt).1 ∙ ap (λ (F : List Event). slice_get (accepted_by C o source F) i) all

-- ---- answered cells

pub next_is : (C : ℕ) (o : Opening) (g : ℕ) (p : SlotTable) (E : List Event) (k : ℕ) (output : Placed) (slot : ℕ) → IsOutputCell o g p E k output slot → next_of C o g p (take k E) ≡ Some (answered_at C o g p E k output slot)
next_is C o g p E k output slot I =
    rw (I.due, I.stands) (ap (λ (s : ℕ). Some (answered_cell C o (take k E) (answered_cells C o g p (take k E)) s output)) (sym I.counted))

-- a cell that is answered at a place is that of an output there
pub record IsNext (C : ℕ) (o : Opening) (g : ℕ) (p : SlotTable) (E : List Event) (k : ℕ) (c : AnsweredCell) : Type 0 where
  pub output : Placed
  pub slot : ℕ
  pub cell : IsOutputCell o g p E k output slot
  pub is : c ≡ answered_at C o g p E k output slot

pub from_next : (C : ℕ) (o : Opening) (g : ℕ) (p : SlotTable) (E : List Event) (k : ℕ) (c : AnsweredCell) → slice_get E k ≡ Some (Cell g) → next_of C o g p (take k E) ≡ Some c → IsNext C o g p E k c
from_next C o g p E k c asked h = by_due (cell_due g (current o g p (take k E))) refl h
  where
    by_output : (cell : ℕ × ℕ) → cell_due g (current o g p (take k E)) ≡ Some cell → (x : Option Placed) → output_in (current o g p (take k E)).table cell.0 cell.1 ≡ x
        → option_map (answered_cell C o (take k E) (answered_cells C o g p (take k E)) ((current o g p (take k E)).first + cell.1)) x ≡ Some c → IsNext C o g p E k c
    by_output cell due None there is = absurd (none-some c is)
    by_output cell due (Some output) there is = record {
      output = output;
      slot = (current o g p (take k E)).first + cell.1;
      cell = record { asked = asked; cell = cell; due = due; stands = there; counted = refl };
      is = sym (same_Some (answered_cell C o (take k E) (answered_cells C o g p (take k E)) ((current o g p (take k E)).first + cell.1) output) c is);
    }

    by_due : (d : Option (ℕ × ℕ)) → cell_due g (current o g p (take k E)) ≡ d
        → option_and_then (λ cell. option_map (answered_cell C o (take k E) (answered_cells C o g p (take k E)) ((current o g p (take k E)).first + cell.1)) (output_in (current o g p (take k E)).table cell.0 cell.1)) d ≡ Some c → IsNext C o g p E k c
    by_due None due is = absurd (none-some c is)
    by_due (Some cell) due is = by_output cell due (output_in (current o g p (take k E)).table cell.0 cell.1) refl is

-- ---- while the opening plan is in force

module _ (o : Opening) (g : ℕ) (p : SlotTable) (E : List Event) (opens : OpensWith o g p) (kept : KeepsOpeningPlan (history_of o g p E)) where
  pub later : (k : ℕ) → k ≤ length E → IsLater g (frame_at_place o g p E 0) (frame_at_place o g p E k)
  later k few = later_at o g p E 0 k opens (omega arith) few

  pub number_here : (k : ℕ) → k ≤ length E → number_at o g p E k ≡ o.proposal.plan.number
  number_here k few =
      let low : o.proposal.plan.number ≤ number_at o g p E k = number_later g (frame_at_place o g p E 0) (frame_at_place o g p E k) (later k few) in
      let high : number_at o g p E k ≤ number_at o g p E (length E) = number_later g (frame_at_place o g p E k) (frame_at_place o g p E (length E)) (later_at o g p E k (length E) opens few (omega arith)) in
      omega (arith, low, high, kept)

  pub table_here : (k : ℕ) → k ≤ length E → (frame_at_place o g p E k).table ≡ p
  table_here k few = elim (later k few) [
    | inl S ↦ S.table
    | inr M ↦ (M.again (number_here k few)).table
  ]

-- ---- no plan is published

pub plan_stays : ((o : Opening) (g : ℕ) (p : SlotTable) (E : List Event) → OpensWith o g p → HasOpeningOrPublished o g p E) → OpeningPlanStays
plan_stays law E opens none =
    let whole : take (length E.events) E.events ≡ E.events = take_all (length E.events) E.events (omega arith) in
    ap (λ (F : List Event). (current E.opening E.group E.table F).number) whole ∙ elim (law E.opening E.group E.table E.events opens) [
      | inl H ↦ H.number
      | inr P ↦ absurd (none P.published.before P.published.after P.proposal P.published.split)
    ]
