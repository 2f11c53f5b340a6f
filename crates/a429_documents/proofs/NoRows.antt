-- Lists of rows that have none.
use Rattle.std.proofs.Common.{◌≡◌, ℕ, zero, suc, ◌+◌, ◌<◌, ◌≤◌, Bool, true, false, List, [], ◌∷◌, ◌++◌, length, Option, Some, None, ap, ap₂, sym, refl, arith, inl, inr, ◌⊎◌, eq-eqb, ◌∙◌}
use Rattle.std.specs.Prelude.{◌&&◌, ◌||◌, ◌==◌, codes, cond, if◌then◌else◌, not, slice_get}
use Rattle.std.specs.List.{count_by, flat_map, range_with_len, sum_by}
use Rattle.std.proofs.lemmas.Bool.{eqb-true}
use Rattle.std.proofs.lemmas.List.Sums.{sum_by-cons}
use Rattle.std.proofs.lemmas.List.FromFn.{length-range_with_len}
use Rattle.std.proofs.lemmas.Option.{none-some, same_Some, slice_get_within}
use Rattle.a429_word.proofs.Lists.{and_false, clash, not_false}
use Rattle.a429_text.specs.Fields.{Field}
use Rattle.a429_equipment.specs.SameStation.{same_number}
use Rattle.a429_documents.specs.Diff.{Subject, change_row, change_rows, comma_after, compared_change, each_of, has_moved, number_text, value_change, with_change, with_number}
use Rattle.a429_documents.specs.declared.diff.sides.Compared.{Compared}

-- ---- parts

pub none_parts : {X : Type 0} (xs ys : List X) → xs ++ ys ≡ [] → (xs ≡ []) × (ys ≡ [])
none_parts [] ys h = (refl, h)
none_parts (x ∷ xs) ys h = absurd cc

pub none_both : {X : Type 0} (xs ys : List X) → xs ≡ [] → ys ≡ [] → xs ++ ys ≡ []
none_both {X} xs ys first second = ap₂ (λ (xs ys : List X). xs ++ ys) first second

pub none_if : {X : Type 0} (b : Bool) (xs : List X) → b ≡ true → (if b then [] else xs) ≡ []
none_if b xs holds = rw holds refl

pub none_of : {X Y : Type 0} (f : X → List Y) (xs : List X) → flat_map f xs ≡ [] → (i : ℕ) (x : X) → slice_get xs i ≡ Some x → f x ≡ []
none_of f [] h i x there = absurd (none-some x there)
none_of {Y} f (y ∷ ys) h zero x there = ap f (sym (same_Some y x there)) ∙ (none_parts (f y) (flat_map f ys) h).0
none_of f (y ∷ ys) h (suc i) x there = none_of f ys (none_parts (f y) (flat_map f ys) h).1 i x there

pub of_none : {X Y : Type 0} (f : X → List Y) (xs : List X) → ((i : ℕ) (x : X) → slice_get xs i ≡ Some x → f x ≡ []) → flat_map f xs ≡ []
of_none f [] each = refl
of_none f (x ∷ xs) each = none_both (f x) (flat_map f xs) (each 0 x refl) (of_none f xs (λ i y there. each (suc i) y there))

pub range_at : (a n i : ℕ) → i < n → slice_get (range_with_len a n) i ≡ Some (a + i)
range_at a zero i below = absurd (omega (arith, below))
range_at a (suc n) zero below = let same : a ≡ a + 0 = omega arith in ap (λ k. Some k) same
range_at a (suc n) (suc i) below = let same : a + 1 + i ≡ a + suc i = omega arith in range_at (a + 1) n i (omega (arith, below)) ∙ ap (λ k. Some k) same

pub none_each : (rows : ℕ → List (List Field)) (n : ℕ) → each_of n rows ≡ [] → (i : ℕ) → i < n → rows i ≡ []
none_each rows n h i below = none_of rows (range_with_len 0 n) h i i (let same : 0 + i ≡ i = omega arith in range_at 0 n i below ∙ ap (λ k. Some k) same)

pub each_none : (rows : ℕ → List (List Field)) (n : ℕ) → ((i : ℕ) → i < n → rows i ≡ []) → each_of n rows ≡ []
each_none rows n each =
    of_none rows (range_with_len 0 n)
    (λ i k there.
    let below : i < n = omega (arith, slice_get_within (range_with_len 0 n) i k there, length-range_with_len 0 n) in
    let same : 0 + i ≡ i = omega arith in
    let is : i ≡ k = same_Some i k (sym (range_at 0 n i below ∙ ap (λ k. Some k) same) ∙ there) in
    ap rows (sym is) ∙ each i below)

-- ---- a row

-- of one row
pub one_none : (b : Bool) (row : List Field) → (if b then [] else row ∷ []) ≡ [] → b ≡ true
one_none true row h = refl
one_none false row h = absurd cc

nothing_in : {X : Type 0} (xs : List X) → length xs ≡ 0 → xs ≡ []
nothing_in [] h = refl
nothing_in (x ∷ xs) h = absurd (omega (arith, h))

-- there is a row if and only if the text says something
pub row_none : (subject : Subject) (change : List ℕ) → change_rows subject change ≡ [] → change ≡ []
unfolding change_rows
row_none subject change h = nothing_in change (eqb-true (length change) 0 (one_none (length change == 0) (change_row subject change) h))

pub none_row : (subject : Subject) (change : List ℕ) → change ≡ [] → change_rows subject change ≡ []
unfolding change_rows
none_row subject change h = rw h refl

-- ---- a text

-- it says nothing if and only if it said nothing before, and both sides have the same value
pub none_value : (same : Bool) (name first second text : List ℕ) → 1 ≤ length name → with_change same (value_change name first second) text ≡ [] → (same ≡ true) × (text ≡ [])
unfolding with_change
none_value true name first second text some h = (refl, h)
none_value false name first second text some h =
    let parts = none_parts text (comma_after text ++ value_change name first second) h in
    let rest = none_parts (comma_after text) (value_change name first second) parts.1 in
    let none = none_parts name (codes " " ++ (first ++ (codes " -> " ++ second))) rest.1 in
    absurd (omega (arith, some, ap length none.0))

pub value_none : (same : Bool) (change text : List ℕ) → same ≡ true → text ≡ [] → with_change same change text ≡ []
unfolding with_change
value_none same change text is none = rw is none

pub number_is : (x y : Option ℕ) → same_number x y ≡ true → x ≡ y
number_is None None h = refl
number_is (Some a) (Some b) h = ap (λ (n : ℕ). Some n) (eqb-true a b h)
number_is None (Some b) h = absurd cc
number_is (Some a) None h = absurd cc

pub same_itself : (x : Option ℕ) → same_number x x ≡ true
same_itself None = refl
same_itself (Some a) = eq-eqb a a refl

pub none_number : (name : List ℕ) (x y : Option ℕ) (text : List ℕ) → 1 ≤ length name → with_number name x y text ≡ [] → (x ≡ y) × (text ≡ [])
none_number name x y text some h =
    let both = none_value (same_number x y) name (number_text x) (number_text y) text some h in
    (number_is x y both.0, both.1)

same_if : (x y : Option ℕ) → x ≡ y → same_number x y ≡ true
same_if x y same = ap (same_number x) (sym same) ∙ same_itself x

pub number_none : (name : List ℕ) (x y : Option ℕ) (text : List ℕ) → x ≡ y → text ≡ [] → with_number name x y text ≡ []
number_none name x y text same none = value_none (same_number x y) (value_change name (number_text x) (number_text y)) text (same_if x y same) none

-- ---- what is compared of an output

and_left : (a b : Bool) → a ≡ true → (a && b) ≡ false → b ≡ false
and_left true b holds h = h
and_left false b holds h = absurd (clash holds)

-- the numbers before the offset
module _ (x y : Compared) where
  abbrev to_min : List ℕ
  to_min = with_number (codes "min_us") x.min_us y.min_us []

  abbrev to_max : List ℕ
  to_max = with_number (codes "max_us") x.max_us y.max_us to_min

  abbrev to_period : List ℕ
  to_period = with_number (codes "period_slots") x.period y.period to_max

  abbrev to_hold : List ℕ
  to_hold = with_number (codes "hold") x.hold y.hold to_period

  abbrev to_bus : List ℕ
  to_bus = with_number (codes "bus") x.bus y.bus to_hold

-- if nothing is said, and it has not moved either
pub compared_is : (all : Bool) (x y : Compared) → compared_change all x y ≡ [] → (all ≡ true) ⊎ (has_moved x y ≡ false) → x ≡ y
compared_is all x y h still =
    let p0 = none_value (not all || same_number x.offset y.offset) (codes "offset") (number_text x.offset) (number_text y.offset) (to_bus x y) (omega arith) h in
    let p1 = none_number (codes "bus") x.bus y.bus (to_hold x y) (omega arith) p0.1 in
    let p2 = none_number (codes "hold") x.hold y.hold (to_period x y) (omega arith) p1.1 in
    let p3 = none_number (codes "period_slots") x.period y.period (to_max x y) (omega arith) p2.1 in
    let p4 = none_number (codes "max_us") x.max_us y.max_us (to_min x y) (omega arith) p3.1 in
    let p5 = none_number (codes "min_us") x.min_us y.min_us [] (omega arith) p4.1 in
    let offset : x.offset ≡ y.offset = elim still [
      | inl is ↦ number_is x.offset y.offset (sym (ap (λ (b : Bool). not b || same_number x.offset y.offset) is) ∙ p0.0)
      | inr stays ↦
          let last : not (same_number x.offset y.offset) ≡ false =
          and_left (same_number x.bus y.bus) _ (same_if x.bus y.bus p1.0) (and_left (same_number x.hold y.hold) _ (same_if x.hold y.hold p2.0)
          (and_left (same_number x.period y.period) _ (same_if x.period y.period p3.0) (and_left (same_number x.max_us y.max_us) _ (same_if x.max_us y.max_us p4.0)
          (and_left (same_number x.min_us y.min_us) _ (same_if x.min_us y.min_us p5.0) stays)))) in
          number_is x.offset y.offset (not_false (same_number x.offset y.offset) last)
    ] in
    λ i. record { min_us = p5.0 i; max_us = p4.0 i; period = p3.0 i; hold = p2.0 i; bus = p1.0 i; offset = offset i }

or_right : (a b : Bool) → b ≡ true → (a || b) ≡ true
or_right true b h = refl
or_right false b h = h

pub compared_none : (all : Bool) (x y : Compared) → x ≡ y → compared_change all x y ≡ []
compared_none all x y same =
    value_none (not all || same_number x.offset y.offset) (value_change (codes "offset") (number_text x.offset) (number_text y.offset)) (to_bus x y)
    (or_right (not all) (same_number x.offset y.offset) (same_if x.offset y.offset (ap (λ (c : Compared). c.offset) same)))
    (number_none (codes "bus") x.bus y.bus (to_hold x y) (ap (λ (c : Compared). c.bus) same)
    (number_none (codes "hold") x.hold y.hold (to_period x y) (ap (λ (c : Compared). c.hold) same)
    (number_none (codes "period_slots") x.period y.period (to_max x y) (ap (λ (c : Compared). c.period) same)
    (number_none (codes "max_us") x.max_us y.max_us (to_min x y) (ap (λ (c : Compared). c.max_us) same)
    (number_none (codes "min_us") x.min_us y.min_us [] (ap (λ (c : Compared). c.min_us) same) refl)))))

pub not_moved : (x y : Compared) → x ≡ y → has_moved x y ≡ false
not_moved x y same =
    ap (has_moved x) (sym same)
    ∙ and_false (same_number x.min_us x.min_us) _ (and_false (same_number x.max_us x.max_us) _ (and_false (same_number x.period x.period) _
    (and_false (same_number x.hold x.hold) _ (and_false (same_number x.bus x.bus) (not (same_number x.offset x.offset)) (ap not (same_itself x.offset))))))

-- ---- sums

pub sum_none : {X : Type 0} (f : X → ℕ) (xs : List X) → sum_by f xs ≡ 0 → (i : ℕ) (x : X) → slice_get xs i ≡ Some x → f x ≡ 0
sum_none f [] h i x there = absurd (none-some x there)
sum_none f (y ∷ ys) h zero x there = ap f (sym (same_Some y x there)) ∙ omega (arith, h, sum_by-cons f y ys)
sum_none f (y ∷ ys) h (suc i) x there = sum_none f ys (omega (arith, h, sum_by-cons f y ys)) i x there

pub none_sum : {X : Type 0} (f : X → ℕ) (xs : List X) → ((i : ℕ) (x : X) → slice_get xs i ≡ Some x → f x ≡ 0) → sum_by f xs ≡ 0
none_sum f [] each = refl
none_sum f (y ∷ ys) each = omega (arith, sum_by-cons f y ys, each 0 y refl, none_sum f ys (λ i x there. each (suc i) x there))

-- of numbers from 0 on
pub sum_each : (f : ℕ → ℕ) (n : ℕ) → sum_by f (range_with_len 0 n) ≡ 0 → (i : ℕ) → i < n → f i ≡ 0
sum_each f n h i below = sum_none f (range_with_len 0 n) h i i (let same : 0 + i ≡ i = omega arith in range_at 0 n i below ∙ ap (λ k. Some k) same)

pub each_sum : (f : ℕ → ℕ) (n : ℕ) → ((i : ℕ) → i < n → f i ≡ 0) → sum_by f (range_with_len 0 n) ≡ 0
each_sum f n each =
    none_sum f (range_with_len 0 n)
    (λ i k there.
    let below : i < n = omega (arith, slice_get_within (range_with_len 0 n) i k there, length-range_with_len 0 n) in
    let same : 0 + i ≡ i = omega arith in
    let is : i ≡ k = same_Some i k (sym (range_at 0 n i below ∙ ap (λ k. Some k) same) ∙ there) in
    ap f (sym is) ∙ each i below)

counts_none : (b : Bool) → ◌≡◌ {A = ℕ} (cond b 1 0) 0 → b ≡ false
counts_none true h = absurd (omega (arith, h))
counts_none false h = refl

pub none_counted : (p : ℕ → Bool) (n : ℕ) → count_by p (range_with_len 0 n) ≡ 0 → (i : ℕ) → i < n → p i ≡ false
none_counted p n h i below = counts_none (p i) (sum_each (λ x. cond (p x) 1 0) n h i below)

pub counted_none : (p : ℕ → Bool) (n : ℕ) → ((i : ℕ) → i < n → p i ≡ false) → count_by p (range_with_len 0 n) ≡ 0
counted_none p n each = each_sum (λ x. cond (p x) 1 0) n (λ i below. rw (each i below) refl)
