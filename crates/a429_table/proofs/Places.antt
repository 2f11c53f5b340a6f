-- The place of a name's first table.
use Rattle.std.proofs.Common.{◌≡◌, ℕ, ◌+◌, ◌<◌, ◌≤◌, Bool, true, false, List, [], ◌∷◌, length, Option, Some, None, is_none, unwrap_or, refl, sym, ◌∙◌, arith}
use Rattle.std.specs.List.{position_from}
use Rattle.std.specs.Str.{bytes_eq}
use Rattle.std.proofs.lemmas.Slice.Eq.{bytes_eq-Decides}
use Rattle.toml.specs.Data.{Data}
use Rattle.a429_table.specs.Names.{name_of, number_named}

-- k lies within the places of xs, which are counted from n
abbrev IsPlace : {X : Type 0} → ℕ → List X → ℕ → Type 0
IsPlace n xs k = (n ≤ k) × (k < n + length xs)

place_at : {X : Type 0} (p : X → Bool) (n k : ℕ) (x : X) (xs : List X) (b : Bool) → p x ≡ b → position_from p n (x ∷ xs) ≡ Some k
    → (position_from p (n + 1) xs ≡ Some k → IsPlace (n + 1) xs k) → IsPlace n (x ∷ xs) k
place_at p n k x xs true e h rest =
    let same : n ≡ k = let f : Some n ≡ Some k = rw e at h in cc in
    (omega arith, omega arith)
place_at p n k x xs false e h rest = let r = rest (rw e at h) in (omega arith, omega arith)

place_is : {X : Type 0} (p : X → Bool) (n k : ℕ) (xs : List X) → position_from p n xs ≡ Some k → IsPlace n xs k
place_is p n k [] h = cc
place_is p n k (x ∷ xs) h = place_at p n k x xs (p x) refl h (place_is p (n + 1) k xs)

number_below : (ds : List Data) (o : Option ℕ) → ((k : ℕ) → o ≡ Some k → k < length ds) → is_none o ≡ false → unwrap_or o 0 < length ds
number_below ds None h some = cc
number_below ds (Some k) h some = h k refl

-- a name that has a table has the number of one
pub number-lt-length : (name : List ℕ) (ds : List Data) → is_none (number_named name ds) ≡ false → unwrap_or (number_named name ds) 0 < length ds
unfolding number_named
number-lt-length name ds h =
    let p : Data → Bool = λ d. bytes_eq name (name_of d) in
    number_below ds (position_from p 0 ds) (λ k e. let r = place_is p 0 k ds e in omega arith) h

-- an element that passes both tests
abbrev PassesBoth : {X : Type 0} → (X → Bool) → (X → Bool) → Type 0
PassesBoth {X} p q = (x : X) × (p x ≡ true) × (q x ≡ true)

both_at : {X : Type 0} (p q : X → Bool) (n k : ℕ) (x : X) (xs : List X) (a b : Bool) → p x ≡ a → q x ≡ b → position_from p n (x ∷ xs) ≡ Some k → position_from q n (x ∷ xs) ≡ Some k
    → (position_from p (n + 1) xs ≡ Some k → position_from q (n + 1) xs ≡ Some k → PassesBoth p q) → PassesBoth p q
both_at p q n k x xs true true e f h i rest = (x, e, f)
both_at p q n k x xs true false e f h i rest =
    let same : n ≡ k = let g : Some n ≡ Some k = rw e at h in cc in
    let later = place_is q (n + 1) k xs (rw f at i) in
    absurd (omega arith)
both_at p q n k x xs false true e f h i rest =
    let same : n ≡ k = let g : Some n ≡ Some k = rw f at i in cc in
    let later = place_is p (n + 1) k xs (rw e at h) in
    absurd (omega arith)
both_at p q n k x xs false false e f h i rest = rest (rw e at h) (rw f at i)

passes_both : {X : Type 0} (p q : X → Bool) (n k : ℕ) (xs : List X) → position_from p n xs ≡ Some k → position_from q n xs ≡ Some k → PassesBoth p q
passes_both p q n k [] h i = cc
passes_both p q n k (x ∷ xs) h i = both_at p q n k x xs (p x) (q x) refl refl h i (passes_both p q (n + 1) k xs)

-- two names of one table are equal
pub one_name : (a b : List ℕ) (ds : List Data) (k : ℕ) → number_named a ds ≡ Some k → number_named b ds ≡ Some k → a ≡ b
unfolding number_named
one_name a b ds k h i =
    let both = passes_both (λ d. bytes_eq a (name_of d)) (λ d. bytes_eq b (name_of d)) 0 k ds h i in
    (bytes_eq-Decides a (name_of both.0)).0 both.1 ∙ sym ((bytes_eq-Decides b (name_of both.0)).0 both.2)
