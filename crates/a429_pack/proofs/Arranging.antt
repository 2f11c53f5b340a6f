-- Any numbers can be put in an order in which their keys do not fall.
use Rattle.std.proofs.Common.{ℕ, zero, suc, ◌<◌, ◌≤◌, List, [], ◌∷◌, length, get_or, arith, inl, inr}
use Rattle.std.specs.List.{insert}
use Rattle.std.specs.List.Sorted.{IsPermutation, IsNonDecreasingBy}
use Rattle.std.proofs.lemmas.Bool.{cases_lt}
use Rattle.std.proofs.lemmas.List.Sorted.{IsPermutation-refl, IsPermutation-cons, IsPermutation-insert, IsPermutation-trans, IsNonDecreasingBy-short, IsNonDecreasingBy-insert}

-- the place of a number: none before it has a greater key, and none after it a smaller one
record IsPlace (key : ℕ → ℕ) (xs : List ℕ) (x i : ℕ) : Type 0 where
  within : i ≤ length xs
  before : (k : ℕ) (d : ℕ) → k < i → key (get_or xs k d) ≤ key x
  behind : (k : ℕ) (d : ℕ) → i ≤ k → k < length xs → key x ≤ key (get_or xs k d)

place : (key : ℕ → ℕ) (xs : List ℕ) (x : ℕ) → IsNonDecreasingBy key xs → (i : ℕ) × IsPlace key xs x i
place key [] x rising = (0, record { within = omega arith; before = λ k d below. absurd (omega arith); behind = λ k d from below. absurd (omega arith) })
place key (y ∷ ys) x rising = elim (cases_lt (key y) (key x)) [
  | inl less ↦
      let (i, there) = place key ys x (λ a b d up below. rising (suc a) (suc b) d (omega arith) (omega arith)) in
      (suc i, record { within = omega (arith, there.within); before = λ k d below. front key ys x y i k d there less below; behind = λ k d from below. back key ys x y i k d there from below })
  | inr most ↦ (0, record { within = omega arith; before = λ k d below. absurd (omega arith); behind = λ k d from below. omega (arith, rising 0 k d (omega arith) below) })
]
  where
    front : (key : ℕ → ℕ) (ys : List ℕ) (x y i k d : ℕ) → IsPlace key ys x i → key y < key x → k < suc i → key (get_or (y ∷ ys) k d) ≤ key x
    front key ys x y i zero d there less below = omega arith
    front key ys x y i (suc k) d there less below = there.before k d (omega arith)

    back : (key : ℕ → ℕ) (ys : List ℕ) (x y i k d : ℕ) → IsPlace key ys x i → suc i ≤ k → k < length (y ∷ ys) → key x ≤ key (get_or (y ∷ ys) k d)
    back key ys x y i zero d there from below = absurd (omega arith)
    back key ys x y i (suc k) d there from below = there.behind k d (omega arith) (omega arith)

-- the numbers in such an order
pub record Arranged (key : ℕ → ℕ) (xs : List ℕ) : Type 0 where
  pub order : List ℕ
  pub moved : IsPermutation xs order
  pub rising : IsNonDecreasingBy key order

pub arranged : (key : ℕ → ℕ) (xs : List ℕ) → Arranged key xs
arranged key [] = record { order = []; moved = IsPermutation-refl []; rising = IsNonDecreasingBy-short key [] (omega arith) }
arranged key (x ∷ xs) =
    let rest : Arranged key xs = arranged key xs in
    let (i, there) = place key rest.order x rest.rising in
    record {
      order = insert rest.order i x;
      moved = IsPermutation-trans (x ∷ xs) (x ∷ rest.order) (insert rest.order i x) (IsPermutation-cons x xs rest.order rest.moved) (IsPermutation-insert rest.order i x);
      rising = IsNonDecreasingBy-insert key rest.order i x rest.rising there.within there.before there.behind;
    }
