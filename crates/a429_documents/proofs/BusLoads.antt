-- What the rows of `load` are made of.
use Rattle.std.proofs.Common.{◌≡◌, ℕ, zero, suc, ◌+◌, ◌<◌, ◌≤◌, Bool, true, false, cond, List, [], ◌∷◌, ◌++◌, length, map, get_or, take, set, sum, refl, inl, inr, sym, ap, ap₂, arith, ◌∙◌, append_assoc}
use Rattle.std.specs.Prelude.{◌&&◌, ◌||◌, Option, Some, slice_get, is_some, max, count_by}
use Rattle.std.specs.List.{flat_map, list_all, list_any, range_with_len, sum_by}
use Rattle.std.specs.Cmp.{nat_cmp_is}
use Rattle.std.specs.Ordering.{nat_cmp, is_lt, ord_max}
use Rattle.std.specs.declared.cmp.Ordering.TheVariants.{Less, Equal, Greater}
use Rattle.std.proofs.lemmas.Bool.{cases_lt}
use mir.Val.{bool_byte}
use Rattle.std.proofs.lemmas.List.{map-append, take_more_set}
use Rattle.std.proofs.lemmas.List.Folds.{list_any-append}
use Rattle.std.proofs.lemmas.List.FromFn.{map-range_with_len_more}
use Rattle.std.proofs.lemmas.List.Sums.{sum_by-append}
use Rattle.std.proofs.lemmas.Option.{same_Some}
use Rattle.a429_word.proofs.Lists.{take_next}
use Rattle.a429_text.specs.Fields.{Field}
use Rattle.a429_pack.specs.Demands.{greatest}
use Rattle.a429_slots.specs.Tables.{SlotTable, buses_of, cell_at}
use Rattle.a429_documents.specs.Limits.{demand_from, if_from}
use Rattle.a429_documents.specs.Load.{bus_rows, group_rows, total_rows}
use Rattle.a429_documents.specs.PlannedGroups.{PlannedGroup}
use Rattle.a429_documents.proofs.Ranges.{range_more}

-- ---- one more of a list

-- one more number is counted
pub count_more : (p : ℕ → Bool) (n : ℕ) → count_by p (range_with_len 0 (n + 1)) ≡ count_by p (range_with_len 0 n) + cond (p n) 1 0
count_more p n =
    let f : ℕ → ℕ = λ x. cond (p x) 1 0 in
    let more : sum_by f (range_with_len 0 n ++ n ∷ []) ≡ sum_by f (range_with_len 0 n) + sum_by f (n ∷ []) = sum_by-append f (range_with_len 0 n) (n ∷ []) in
    let one : sum_by f (n ∷ []) ≡ f n = omega arith in
    ap (count_by p) (range_more n) ∙ more ∙ ap (λ (z : ℕ). sum_by f (range_with_len 0 n) + z) one

-- a byte for yes or no
pub byte : (b : Bool) → bool_byte b ≡ cond b 1 0
byte true = refl
byte false = refl

-- one more answer to a test
pub test_more : (p : ℕ → Bool) (n room one : ℕ) (passed : Bool) → passed ≡ p n → one ≡ bool_byte passed → room ≡ count_by p (range_with_len 0 n) → room + one ≡ count_by p (range_with_len 0 (n + 1))
test_more p n room one passed is counted so =
    ap₂ (λ x y. x + y) so (counted ∙ byte passed ∙ ap (λ b. cond b 1 0) is) ∙ sym (count_more p n)

-- one more cell, if it has an output
pub cell_more : (t : SlotTable) (bus slot at cells one : ℕ) (found : Option ℕ) → found ≡ cell_at t bus at → at ≡ slot → one ≡ bool_byte (is_some found)
    → cells ≡ count_by (λ slot. is_some (cell_at t bus slot)) (range_with_len 0 slot) → cells + one ≡ count_by (λ slot. is_some (cell_at t bus slot)) (range_with_len 0 (slot + 1))
cell_more t bus slot at cells one found is same counted so =
    test_more (λ slot. is_some (cell_at t bus slot)) slot cells one (is_some found) (ap (λ (o : Option ℕ). is_some o) is ∙ ap (λ (s : ℕ). is_some (cell_at t bus s)) same) counted so

pub byte_small : (b : Bool) → bool_byte b ≤ 1
byte_small true = omega arith
byte_small false = omega arith

-- one more bus has its load
pub loads_more : (f : ℕ → ℕ) (xs : List ℕ) (n v : ℕ) → n < length xs → v ≡ f n → take n xs ≡ map f (range_with_len 0 n) → take (n + 1) (set xs n v) ≡ map f (range_with_len 0 (n + 1))
loads_more f xs n v below is so =
    take_more_set xs n v below ∙ ap (λ (l : List ℕ). l ++ v ∷ []) so ∙ ap (λ (x : ℕ). map f (range_with_len 0 n) ++ x ∷ []) is
    ∙ sym (map-range_with_len_more f 0 n n (omega arith))

-- two ways to say max(a, b)
pub greater_is : (a b : ℕ) → ord_max nat_cmp a b ≡ max a b
greater_is a b = elim (cases_lt b a) [
  | inl less ↦ let cmp : Less ≡ nat_cmp b a = nat_cmp_is b a Less less in ap (λ r. cond (is_lt r) a b) (sym cmp) ∙ omega arith
  | inr most ↦ elim (cases_lt a b) [
    | inl greater ↦ let cmp : Greater ≡ nat_cmp b a = nat_cmp_is b a Greater greater in ap (λ r. cond (is_lt r) a b) (sym cmp) ∙ omega arith
    | inr same ↦ let cmp : Equal ≡ nat_cmp b a = nat_cmp_is b a Equal (omega arith) in ap (λ r. cond (is_lt r) a b) (sym cmp) ∙ omega arith
  ]
]

-- one more number to compare
greatest-push : (xs : List ℕ) (x : ℕ) → greatest (xs ++ x ∷ []) ≡ max (greatest xs) x
greatest-push [] x = omega arith
greatest-push (y ∷ ys) x = let rest : greatest (ys ++ x ∷ []) ≡ max (greatest ys) x = greatest-push ys x in omega arith

pub greatest_of_more : (f : ℕ → ℕ) (n : ℕ) → greatest (map f (range_with_len 0 (n + 1))) ≡ max (greatest (map f (range_with_len 0 n))) (f n)
greatest_of_more f n = ap greatest (map-range_with_len_more f 0 n n (omega arith)) ∙ greatest-push (map f (range_with_len 0 n)) (f n)

pub greatest_more : {X : Type 0} (f : X → ℕ) (xs : List X) (i : ℕ) (x : X) → slice_get xs i ≡ Some x → greatest (map f (take (i + 1) xs)) ≡ max (greatest (map f (take i xs))) (f x)
greatest_more f xs i x there =
    ap (λ ys. greatest (map f ys)) (take_next xs i x there) ∙ ap greatest (map-append f (take i xs) (x ∷ [])) ∙ greatest-push (map f (take i xs)) (f x)

-- one more term
pub sum_more : (f : ℕ → ℕ) (xs : List ℕ) (i x : ℕ) → slice_get xs i ≡ Some x → sum (map f (take (i + 1) xs)) ≡ sum (map f (take i xs)) + f x
sum_more f xs i x there =
    let more : sum (map f (take i xs) ++ f x ∷ []) ≡ sum (map f (take i xs)) + sum (f x ∷ []) = sum_by-append (λ z. z) (map f (take i xs)) (f x ∷ []) in
    let one : sum (f x ∷ []) ≡ f x = omega arith in
    ap (λ ys. sum (map f ys)) (take_next xs i x there) ∙ ap sum (map-append f (take i xs) (x ∷ [])) ∙ more ∙ ap (λ (z : ℕ). sum (map f (take i xs)) + z) one

-- one more demand of a size
pub demand_more : (size : ℕ) (xs : List ℕ) (i x one old : ℕ) → slice_get xs i ≡ Some x → one ≡ if_from size x → old ≡ demand_from size (take i xs) → old + one ≡ demand_from size (take (i + 1) xs)
demand_more size xs i x one old there is so =
    ap (λ (z : ℕ). z + one) so ∙ ap (λ (z : ℕ). demand_from size (take i xs) + z) is ∙ sym (sum_more (if_from size) xs i x there)

-- one more passes a test, or one does not
pub all_push : (p : ℕ → Bool) (xs : List ℕ) (x : ℕ) → list_all p xs ≡ true → p x ≡ true → list_all p (xs ++ x ∷ []) ≡ true
all_push p [] x all is = rw is refl
all_push p (y ∷ ys) x all is = elim (p y) as (λ b. (b && list_all p ys) ≡ true → (b && list_all p (ys ++ x ∷ [])) ≡ true) [
  | true ↦ λ rest. all_push p ys x rest is
  | false ↦ λ none. none
] all

pub all_more : (p : ℕ → Bool) (xs : List ℕ) (i x : ℕ) → slice_get xs i ≡ Some x → list_all p (take i xs) ≡ true → p x ≡ true → list_all p (take (i + 1) xs) ≡ true
all_more p xs i x there all is = ap (list_all p) (take_next xs i x there) ∙ all_push p (take i xs) x all is

pub not_all : (p : ℕ → Bool) (xs : List ℕ) (i x : ℕ) → slice_get xs i ≡ Some x → p x ≡ false → list_all p xs ≡ false
not_all p [] i x there is = absurd (cc)
not_all p (y ∷ ys) zero x there is = rw (same_Some _ _ there, is) refl
not_all p (y ∷ ys) (suc i) x there is = elim (p y) as (λ b. (b && list_all p ys) ≡ false) [ true ↦ not_all p ys i x there is | false ↦ refl ]

-- one more number of a range
pub range_all_more : (p : ℕ → Bool) (n : ℕ) → list_all p (range_with_len 0 n) ≡ true → p n ≡ true → list_all p (range_with_len 0 (n + 1)) ≡ true
range_all_more p n all is = ap (list_all p) (range_more n) ∙ all_push p (range_with_len 0 n) n all is

range_at : (s n i : ℕ) → i < n → slice_get (range_with_len s n) i ≡ Some (s + i)
range_at s zero i below = absurd (omega arith)
range_at s (suc n) zero below = let same : s ≡ s + 0 = omega arith in ap (λ x. Some x) same
range_at s (suc n) (suc i) below = let same : s + 1 + i ≡ s + suc i = omega arith in range_at (s + 1) n i (omega arith) ∙ ap (λ x. Some x) same

pub range_not_all : (p : ℕ → Bool) (n i : ℕ) → i < n → p i ≡ false → list_all p (range_with_len 0 n) ≡ false
range_not_all p n i below is = let same : 0 + i ≡ i = omega arith in not_all p (range_with_len 0 n) i i (range_at 0 n i below ∙ ap (λ x. Some x) same) is

-- one more of a sum over a range
pub range_sum_more : (f : ℕ → ℕ) (n : ℕ) → sum (map f (range_with_len 0 (n + 1))) ≡ sum (map f (range_with_len 0 n)) + f n
range_sum_more f n =
    let more : sum (map f (range_with_len 0 n) ++ f n ∷ []) ≡ sum (map f (range_with_len 0 n)) + sum (f n ∷ []) = sum_by-append (λ z. z) (map f (range_with_len 0 n)) (f n ∷ []) in
    let one : sum (f n ∷ []) ≡ f n = omega arith in
    ap sum (map-range_with_len_more f 0 n n (omega arith)) ∙ more ∙ ap (λ (z : ℕ). sum (map f (range_with_len 0 n)) + z) one

or_false : (a b : Bool) → (a || (b || false)) ≡ (a || b)
or_false a true = refl
or_false a false = refl

pub any_more : {X : Type 0} (p : X → Bool) (xs : List X) (i : ℕ) (x : X) (old new : Bool) → slice_get xs i ≡ Some x → old ≡ list_any p (take i xs) → new ≡ (old || p x) → new ≡ list_any p (take (i + 1) xs)
any_more p xs i x old new there so now =
    now ∙ ap (λ b. b || p x) so ∙ sym (ap (list_any p) (take_next xs i x there) ∙ list_any-append p (take i xs) (x ∷ []) ∙ or_false (list_any p (take i xs)) (p x))

-- the number at a place of a list that a function gives
pub mapped_at : (f : ℕ → ℕ) (s n i : ℕ) → i < n → get_or (map f (range_with_len s n)) i 0 ≡ f (s + i)
mapped_at f s zero i below = absurd (omega arith)
mapped_at f s (suc n) zero below = let same : s ≡ s + 0 = omega arith in ap f same
mapped_at f s (suc n) (suc i) below = let same : s + 1 + i ≡ s + suc i = omega arith in mapped_at f (s + 1) n i (omega arith) ∙ ap f same

length-mapped : (f : ℕ → ℕ) (s n : ℕ) → length (map f (range_with_len s n)) ≡ n
length-mapped f s zero = refl
length-mapped f s (suc n) = let rest : length (map f (range_with_len (s + 1) n)) ≡ n = length-mapped f (s + 1) n in omega arith

pub bus_count : (f : ℕ → ℕ) (n : ℕ) (xs : List ℕ) → xs ≡ map f (range_with_len 0 n) → length xs ≡ n
bus_count f n xs is = ap length is ∙ length-mapped f 0 n

pub bus_known : (f : ℕ → ℕ) (n i : ℕ) (xs : List ℕ) → xs ≡ map f (range_with_len 0 n) → i < n → i < length xs
bus_known f n i xs is below = omega (arith, ap length is, length-mapped f 0 n)

pub bus_load : (f : ℕ → ℕ) (n i : ℕ) (xs : List ℕ) → xs ≡ map f (range_with_len 0 n) → i < n → get_or xs i 0 ≡ f i
bus_load f n i xs is below = let same : 0 + i ≡ i = omega arith in ap (λ (l : List ℕ). get_or l i 0) is ∙ mapped_at f 0 n i below ∙ ap f same

-- ---- the rows of a group

-- those of each bus, and those of all of them
pub group_is : (limit : Option ℕ) (g : PlannedGroup) (old rows new : List (List Field))
    → rows ≡ old ++ flat_map (bus_rows g) (range_with_len 0 (buses_of g.table)) → new ≡ rows ++ total_rows limit g
    → new ≡ old ++ group_rows limit g
group_is limit g old rows new so now =
    now ∙ ap (λ (l : List (List Field)). l ++ total_rows limit g) so
    ∙ append_assoc old (flat_map (bus_rows g) (range_with_len 0 (buses_of g.table))) (total_rows limit g)
