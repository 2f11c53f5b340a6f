-- The first part of a text between separators.
use Rattle.std.proofs.Common.{◌≡◌, ◌∙◌, ◌+◌, ℕ, suc, Bool, true, false, cond, List, take, drop, [], ◌∷◌, length, refl, ap, arith, add-one}
use Rattle.std.specs.Prelude.{Option, Some, None, nat_lt, position}
use Rattle.std.specs.List.{slice_split, onto_first, position_or_len}
use Rattle.std.proofs.lemmas.Bool.Decides.{nat_tests}

-- the parts, by the place of the first separator
abbrev pub parts_by : {X : Type 0} → (X → Bool) → Option ℕ → List X → List (List X)
parts_by p None xs = xs ∷ []
parts_by p (Some k) xs = take k xs ∷ slice_split p (drop (k + 1) xs)

below_both : (m n : ℕ) → nat_lt (1 + m) (suc n) ≡ nat_lt m n
below_both m n = grind (arith, nat_tests)

zero_below : (n : ℕ) → nat_lt 0 (suc n) ≡ true
zero_below n = grind (arith, nat_tests)

later : {X : Type 0} (p : X → Bool) (x : X) (xs : List X) (m : ℕ) (u : Bool)
    → onto_first x (parts_by p (cond u (Some m) None) xs) ≡ parts_by p (cond u (Some (1 + m)) None) (x ∷ xs)
later p x xs m true = let one : 1 + m ≡ suc m = omega arith in rw (one, add-one, add-one) refl
later p x xs m false = refl

one_more : {X : Type 0} (p : X → Bool) (x : X) (xs : List X) (t : Bool) → p x ≡ t → slice_split p xs ≡ parts_by p (position p xs) xs
    → slice_split p (x ∷ xs) ≡ parts_by p (position p (x ∷ xs)) (x ∷ xs)
one_more p x xs true e shorter = rw (e, zero_below (length xs)) refl
one_more p x xs false e shorter =
    rw (e, below_both (position_or_len p xs) (length xs), shorter) (later p x xs (position_or_len p xs) (nat_lt (position_or_len p xs) (length xs)))

pub parts-first : {X : Type 0} (p : X → Bool) (xs : List X) → slice_split p xs ≡ parts_by p (position p xs) xs
parts-first p [] = refl
parts-first p (x ∷ xs) = one_more p x xs (p x) refl (parts-first p xs)

pub parts_some : {X : Type 0} (p : X → Bool) (xs : List X) (k : ℕ) → position p xs ≡ Some k → slice_split p xs ≡ take k xs ∷ slice_split p (drop (k + 1) xs)
parts_some p xs k first = parts-first p xs ∙ ap (λ (o : Option ℕ). parts_by p o xs) first

pub parts_none : {X : Type 0} (p : X → Bool) (xs : List X) → position p xs ≡ None → slice_split p xs ≡ xs ∷ []
parts_none p xs none = parts-first p xs ∙ ap (λ (o : Option ℕ). parts_by p o xs) none
