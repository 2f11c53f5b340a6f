-- Tests of the elements of a list.
use Rattle.std.proofs.Common.{◌≡◌, ℕ, ◌+◌, Bool, ◌||◌, List, [], ◌∷◌, map, refl, ap, ◌∙◌, inl, inr}
use Rattle.std.specs.Prelude.{is_some, position}
use Rattle.std.specs.List.{list_any, position_from}
use Rattle.std.proofs.lemmas.Bool.{cases_Bool}
use Rattle.std.proofs.lemmas.Iterator.Adapters.{position_from-zero}

-- a view of the elements may come before the test
pub list_any-map : {X Y : Type 0} (p : Y → Bool) (f : X → Y) (xs : List X) → list_any p (map f xs) ≡ list_any (λ x. p (f x)) xs
list_any-map p f [] = refl
list_any-map p f (x ∷ xs) = ap (λ (b : Bool). p (f x) || b) (list_any-map p f xs)

is_some-position_from : {X : Type 0} (p : X → Bool) (i : ℕ) (xs : List X) → is_some (position_from p i xs) ≡ list_any p xs
is_some-position_from p i [] = refl
is_some-position_from p i (x ∷ xs) = elim (cases_Bool (p x)) [
  | inl passes ↦ rw passes refl
  | inr fails ↦ rw fails (is_some-position_from p (i + 1) xs)
]

-- an element passes if and only if one has a place
pub is_some-position : {X : Type 0} (p : X → Bool) (xs : List X) → is_some (position p xs) ≡ list_any p xs
is_some-position p xs = ap is_some (position_from-zero p xs) ∙ is_some-position_from p 0 xs
