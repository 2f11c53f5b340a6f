-- The place of the first item of a list that passes a test.
use Rattle.std.proofs.Common.{◌≡◌, ℕ, zero, suc, ◌+◌, Bool, true, false, List, [], ◌∷◌, length, take, Some, None, ap, refl, arith, ◌∙◌}
use Rattle.std.specs.Prelude.{position, slice_get}
use Rattle.std.specs.List.{AllByRecursion, list_any, position_or_len}
use Rattle.std.proofs.lemmas.Bool.{le-ltb, lt-ltb}
use Rattle.std.proofs.lemmas.Option.{none-some, same_Some, slice_get_within}

first_at : {X : Type 0} (p : X → Bool) (xs : List X) (i : ℕ) (x : X) → AllByRecursion (λ y. p y ≡ false) (take i xs) → slice_get xs i ≡ Some x → p x ≡ true → position_or_len p xs ≡ i
first_at p [] i x none there passes = absurd (none-some x there)
first_at p (y ∷ ys) zero x none there passes = rw (ap p (same_Some y x there) ∙ passes) refl
first_at p (y ∷ ys) (suc i) x none there passes = rw none.0 (ap (λ n. 1 + n) (first_at p ys i x none.1 there passes) ∙ omega arith)

pub position_first : {X : Type 0} (p : X → Bool) (xs : List X) (i : ℕ) (x : X) → AllByRecursion (λ y. p y ≡ false) (take i xs) → slice_get xs i ≡ Some x → p x ≡ true → position p xs ≡ Some i
position_first p xs i x none there passes = rw (first_at p xs i x none there passes, lt-ltb i (length xs) (slice_get_within xs i x there)) refl

nowhere : {X : Type 0} (p : X → Bool) (xs : List X) → AllByRecursion (λ y. p y ≡ false) xs → position_or_len p xs ≡ length xs
nowhere p [] none = refl
nowhere p (y ∷ ys) none = rw none.0 (ap (λ n. 1 + n) (nowhere p ys none.1) ∙ omega arith)

pub position_nowhere : {X : Type 0} (p : X → Bool) (xs : List X) → AllByRecursion (λ y. p y ≡ false) xs → position p xs ≡ None
position_nowhere p xs none = rw (nowhere p xs none, le-ltb (length xs) (length xs) (omega arith)) refl

-- no item passes
pub none_passes : {X : Type 0} (p : X → Bool) (xs : List X) → AllByRecursion (λ y. p y ≡ false) xs → list_any p xs ≡ false
none_passes p [] none = refl
none_passes p (y ∷ ys) none = rw none.0 (none_passes p ys none.1)
