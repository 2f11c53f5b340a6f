-- A permutation of the numbers below n has each of them once.
use Rattle.std.proofs.Common.{◌≡◌, ℕ, zero, suc, ◌+◌, ◌*◌, ◌<◌, ◌≤◌, List, length, get_or, take, cond, ltb, Some, sym, ap, ◌∙◌, arith, inl, inr}
use Rattle.std.specs.List.{range_with_len, sum_by}
use Rattle.std.specs.List.Sorted.{IsPermutation}
use Rattle.std.proofs.lemmas.Bool.{cases_lt, cases_eq}
use Rattle.std.proofs.lemmas.Bool.Decides.{nat_tests}
use Rattle.std.proofs.lemmas.List.{take_all}
use Rattle.std.proofs.lemmas.List.FromFn.{get_or-range_with_len, length-range_with_len}
use Rattle.std.proofs.lemmas.List.Sums.{sum_by_more, get_or-le-sum_by}
use Rattle.std.proofs.lemmas.List.Sorted.{length_permutation, sum_by-IsPermutation}
use Rattle.a429_pack.specs.Orders.{NamesEachOnce}
use Rattle.a429_pack.proofs.Counting.{total, total-zero, total-suc, total-ext, total-constant, names, names_same, names_other, picked, orders_apart, orders_found, Orders}

-- a sum of a list, by its places
total-sum_by : (f : ℕ → ℕ) (xs : List ℕ) (n : ℕ) → n ≤ length xs → total n (λ i. f (get_or xs i 0)) ≡ sum_by f (take n xs)
total-sum_by f xs zero few = total-zero (λ i. f (get_or xs i 0))
total-sum_by f xs (suc n) few =
    let more : suc n ≡ n + 1 = omega arith in
    total-suc n (λ i. f (get_or xs i 0)) ∙ ap (λ z. z + f (get_or xs n 0)) (total-sum_by f xs n (omega arith))
    ∙ sym (sum_by_more f xs n 0 few) ∙ ap (λ m. sum_by f (take m xs)) (sym more)

-- 1 for a number that is not below n
abbrev outsider : ℕ → ℕ → ℕ
outsider n x = cond (ltb x n) 0 1

-- a list that has each number below n once
pub orders_of : (n : ℕ) (xs : List ℕ) → length xs ≡ n → IsPermutation (range_with_len 0 n) xs → Orders n (λ i. get_or xs i 0)
orders_of n xs many moved = record {
  inside = λ i below.
      let f : ℕ → ℕ = λ x. outsider n x in
      let whole : sum_by f xs ≡ sum_by f (range_with_len 0 n) = sum_by-IsPermutation f (range_with_len 0 n) xs moved in
      let none : sum_by f (range_with_len 0 n) ≡ 0 = range-sum n f ∙ total-ext n f (λ x. 0) (λ x small. inside_none n x small) ∙ total-constant n 0 ∙ omega arith in
      let most : f (get_or xs i 0) ≤ sum_by f xs = get_or-le-sum_by f xs i 0 (omega arith) in
      inside_from n (get_or xs i 0) (omega arith);
  once = λ o below.
      let f : ℕ → ℕ = λ x. names (Some x) o in
      let all : take n xs ≡ xs = take_all n xs (omega arith) in
      let turned : (i : ℕ) → i < n → names (Some i) o ≡ names (Some o) i * 1 = λ i small. names_turned i o in
      total-sum_by f xs n (omega arith) ∙ ap (sum_by f) all ∙ sum_by-IsPermutation f (range_with_len 0 n) xs moved
      ∙ range-sum n f ∙ total-ext n f (λ i. names (Some o) i * 1) turned ∙ picked n o (λ i. 1) below;
}
  where
    inside_none : (n x : ℕ) → x < n → outsider n x ≡ 0
    inside_none n x h = grind (arith, nat_tests)

    outside : (n x : ℕ) → n ≤ x → outsider n x ≡ 1
    outside n x h = grind (arith, nat_tests)

    inside_from : (n x : ℕ) → outsider n x ≤ 0 → x < n
    inside_from n x h = elim (cases_lt x n) [ inl small ↦ small | inr large ↦ let one : outsider n x ≡ 1 = outside n x large in absurd (omega arith) ]

    names_turned : (i o : ℕ) → names (Some i) o ≡ names (Some o) i * 1
    names_turned i o = elim (cases_eq i o) [
      | inl same ↦ ap (λ z. names (Some z) o) same ∙ names_same o ∙ sym (ap (λ z. names (Some o) z * 1) same ∙ ap (λ z. z * 1) (names_same o))
      | inr other ↦ names_other i o other ∙ sym (ap (λ z. z * 1) (names_other o i (λ same. other (sym same))))
    ]

    range-sum : (n : ℕ) (f : ℕ → ℕ) → sum_by f (range_with_len 0 n) ≡ total n f
    range-sum n f =
        let len : length (range_with_len 0 n) ≡ n = length-range_with_len 0 n in
        sym (sym (total-ext n (λ i. f (get_or (range_with_len 0 n) i 0)) f (λ i below. ap f (get_or-range_with_len 0 n i 0 below ∙ omega arith)))
        ∙ total-sum_by f (range_with_len 0 n) n (omega arith) ∙ ap (sum_by f) (take_all n (range_with_len 0 n) (omega arith)))

pub length_permuted : (n : ℕ) (xs : List ℕ) → IsPermutation (range_with_len 0 n) xs → length xs ≡ n
length_permuted n xs moved = length_permutation (range_with_len 0 n) xs moved ∙ length-range_with_len 0 n

-- each of its numbers is below n
pub permuted_below : (n : ℕ) (xs : List ℕ) → IsPermutation (range_with_len 0 n) xs → (i : ℕ) → i < length xs → get_or xs i 0 < n
permuted_below n xs moved i below = (orders_of n xs (length_permuted n xs moved) moved).inside i (omega (arith, length_permuted n xs moved))

-- the four facts in one
pub names_each_once : (n : ℕ) (xs : List ℕ) → IsPermutation (range_with_len 0 n) xs → NamesEachOnce n xs
names_each_once n xs moved =
    let orders : Orders n (λ i. get_or xs i 0) = orders_of n xs (length_permuted n xs moved) moved in
    record {
      length = length_permuted n xs moved;
      below = orders.inside;
      place = orders_found n (λ i. get_or xs i 0) orders;
      once = orders_apart n (λ i. get_or xs i 0) orders;
    }
