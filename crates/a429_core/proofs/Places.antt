-- An element of a list, read and written back; the last of a list; the first that passes a test.
use Rattle.std.proofs.Common.{◌≡◌, ℕ, ◌*◌, ◌%◌, ◌<◌, Bool, true, false, List, length, ◌∙◌, sym, ap, subst, refl, inl, inr}
use Rattle.std.specs.Prelude.{Option, Some, None, slice_get, position, nat_lt, option_map, option_and_then}
use Rattle.std.proofs.Math.Nat.{mod-lt}
use Rattle.std.proofs.lemmas.List.Quantifiers.{position-Some}
use Rattle.std.proofs.lemmas.Bool.{lt-ltb, le-ltb}
use Rattle.std.proofs.lemmas.Option.{get_or_from_slice_get, none-some, slice_get_within, slice_get_cases}
use Rattle.a429_word.proofs.Lists.{positive}

pub inside : {X : Type 0} (xs : List X) (i : ℕ) (x : X) → slice_get xs i ≡ Some x → nat_lt i (length xs) ≡ true
inside xs i x h = lt-ltb i (length xs) (slice_get_within xs i x h)

pub outside : {X : Type 0} (xs : List X) (i : ℕ) → slice_get xs i ≡ None → nat_lt i (length xs) ≡ false
outside xs i h = elim (slice_get_cases xs i).1 [
  | inl hit ↦ absurd (none-some hit.0 (sym h ∙ hit.2))
  | inr miss ↦ le-ltb i (length xs) miss.0
]

pub first_passes : {X : Type 0} (p : X → Bool) (xs : List X) (i : ℕ) → position p xs ≡ Some i → (x : X) → slice_get xs i ≡ Some x → p x ≡ true
first_passes p xs i e x h =
    let all = position-Some p xs i x e in
    subst (λ (y : _). p y ≡ true) (get_or_from_slice_get xs i x x h) all.1

pub map_same : {A B : Type 0} (f h : A → B) (x : Option A) → ((a : A) → x ≡ Some a → f a ≡ h a) → option_map f x ≡ option_map h x
map_same f h None e = refl
map_same f h (Some a) e = ap (λ b. Some b) (e a refl)

pub and_then_same : {A B : Type 0} (f h : A → Option B) (x : Option A) → ((a : A) → f a ≡ h a) → option_and_then f x ≡ option_and_then h x
and_then_same f h None e = refl
and_then_same f h (Some a) e = e a

pub on_a_bus : (k m H : ℕ) → k < m * H → k % m < m
on_a_bus k m H lt = mod-lt k (positive k m H lt)
