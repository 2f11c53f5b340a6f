-- Listings of numbered outputs in an order that has each number once.
use Rattle.std.proofs.Common.{◌≡◌, ◌≢◌, ℕ, suc, ◌<◌, false, eqb, List, [], ◌∷◌, length, get_or, map, ◌∙◌, arith}
use Rattle.std.specs.List.{All, AllByRecursion, IsDistinct, range_with_len}
use Rattle.std.specs.List.Sorted.{IsPermutation}
use Rattle.std.proofs.lemmas.Bool.Decides.{nat_tests}
use Rattle.std.proofs.lemmas.List.Elements.{recursion_from_All}
use Rattle.std.proofs.lemmas.List.FromFn.{get_or-range_with_len, length-range_with_len}
use Rattle.std.proofs.lemmas.List.Sorted.{All-permutation}
use Rattle.std.proofs.lemmas.Map.Keys.{IsDistinct-IsPermutation, IsDistinct-from_apart, IsDistinct-head, IsDistinct-tail}
use Rattle.a429_cert.specs.Spelling.{Listing}
use Rattle.a429_cert.specs.Checked.{EachPair}

-- ---- the numbers below n in another order

flips : (x y : ℕ) → eqb x y ≡ eqb y x
flips x y = grind (arith, nat_tests)

apart_numbers : (x y : ℕ) → x < y → eqb x y ≡ false
apart_numbers x y less = grind (arith, nat_tests)

differ_from : (x y : ℕ) → eqb x y ≡ false → x ≢ y
differ_from x y h same = grind (arith, nat_tests)

range_at : (n i d : ℕ) → i < length (range_with_len 0 n) → get_or (range_with_len 0 n) i d ≡ i
range_at n i d below = get_or-range_with_len 0 n i d (omega (arith, length-range_with_len 0 n)) ∙ omega arith

range_below : (n : ℕ) → All (λ o. o < n) (range_with_len 0 n)
range_below n i d below = omega (arith, range_at n i d below, length-range_with_len 0 n)

range_apart : (n i j d : ℕ) → i < j → j < length (range_with_len 0 n) → eqb (get_or (range_with_len 0 n) i d) (get_or (range_with_len 0 n) j d) ≡ false
range_apart n i j d less below =
    apart_numbers (get_or (range_with_len 0 n) i d) (get_or (range_with_len 0 n) j d) (omega (arith, range_at n i d (omega arith), range_at n j d below))

pub order_below : (n : ℕ) (order : List ℕ) → IsPermutation (range_with_len 0 n) order → AllByRecursion (λ o. o < n) order
order_below n order moved = recursion_from_All (λ o. o < n) order (All-permutation (λ o. o < n) (range_with_len 0 n) order moved (range_below n))

pub order_once : (n : ℕ) (order : List ℕ) → IsPermutation (range_with_len 0 n) order → IsDistinct eqb order
order_once n order moved =
    IsDistinct-IsPermutation eqb flips (range_with_len 0 n) order moved (IsDistinct-from_apart eqb (range_with_len 0 n) (λ i j d less below. range_apart n i j d less below))

-- ---- what is true of each number, or of any two, is true of their listings

later_pairs : (R : Listing → Listing → Type 0) (f : ℕ → Listing) (n o : ℕ) (order : List ℕ) → o < n → AllByRecursion (λ j. j < n) order → AllByRecursion (λ j. eqb o j ≡ false) order
    → ((i j : ℕ) → i < n → j < n → i ≢ j → R (f i) (f j)) → AllByRecursion (R (f o)) (map f order)
later_pairs R f n o [] low below differ all = tt
later_pairs R f n o (j ∷ order) low below differ all = (all o j low below.0 (differ_from o j differ.0), later_pairs R f n o order low below.1 differ.1 all)

pub each_pair : (R : Listing → Listing → Type 0) (f : ℕ → Listing) (n : ℕ) (order : List ℕ) → AllByRecursion (λ o. o < n) order → IsDistinct eqb order
    → ((i j : ℕ) → i < n → j < n → i ≢ j → R (f i) (f j)) → EachPair R (map f order)
each_pair R f n [] below once all = tt
each_pair R f n (o ∷ order) below once all =
    (later_pairs R f n o order below.0 below.1 (IsDistinct-head eqb o order once) all, each_pair R f n order below.1 (IsDistinct-tail eqb o order once) all)

pub each_listing : (P : Listing → Type 0) (f : ℕ → Listing) (n : ℕ) (order : List ℕ) → AllByRecursion (λ o. o < n) order
    → ((o : ℕ) → o < n → P (f o)) → AllByRecursion P (map f order)
each_listing P f n [] below all = tt
each_listing P f n (o ∷ order) below all = (all o below.0, each_listing P f n order below.1 all)

pub each_placed : (P : Listing → Type 0) (f : ℕ → Listing) (order : List ℕ) → ((k : ℕ) → k < length order → P (f (get_or order k 0))) → AllByRecursion P (map f order)
each_placed P f [] all = tt
each_placed P f (o ∷ order) all = (all 0 (omega arith), each_placed P f order (λ k below. all (suc k) (omega arith)))
