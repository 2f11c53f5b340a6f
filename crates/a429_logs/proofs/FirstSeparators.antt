-- The first byte that passes a test, as a search gives it.
use Rattle.std.proofs.Common.{◌≡◌, ℕ, Bool, true, false, inl, inr, List, length, refl, arith}
use Rattle.std.specs.Prelude.{Option, Some, None, nat_lt, position}
use Rattle.std.specs.List.{position_or_len}
use Rattle.std.proofs.lemmas.Bool.{cases_Bool}
use Rattle.std.proofs.lemmas.Bool.Decides.{nat_tests}
use Rattle.std.proofs.lemmas.List.Sums.{position_or_len_is}
use Rattle.memchr.specs.Find.{IsFirstByte}

passes_not : (b : Bool) → (b ≡ true → ⊥) → b ≡ false
passes_not b none = elim (cases_Bool b) [
  | inl is ↦ absurd (none is)
  | inr is ↦ is
]

pub first_is : (test : ℕ → Bool) (hay : List ℕ) (r : Option ℕ) → IsFirstByte test hay r → r ≡ position test hay
first_is test hay None none =
    let all : position_or_len test hay ≡ length hay =
    position_or_len_is test hay (length hay) 0 (omega arith) (λ k below. passes_not _ (none k (omega arith) below)) (λ below. absurd (omega (arith, below))) in
    let past : nat_lt (position_or_len test hay) (length hay) ≡ false = grind (arith, nat_tests, all) in
    rw past refl
first_is test hay (Some k) (before, here) =
    let at : position_or_len test hay ≡ k =
    position_or_len_is test hay k 0 (omega (arith, before.high)) (λ j below. passes_not _ (before.before j (omega arith) below)) (λ below. here) in
    let within : nat_lt (position_or_len test hay) (length hay) ≡ true = grind (arith, nat_tests, at, before.high) in
    rw (within, at) refl
