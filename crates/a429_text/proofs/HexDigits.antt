-- Two more digits before those that are written.
use Rattle.std.proofs.Common.{◌≡◌, ℕ, zero, suc, ◌+◌, ◌*◌, ◌/◌, ◌%◌, ◌<◌, ◌++◌, ◌∷◌, [], ◌&&◌, Bool, true, List, eqb, get_or, refl, sym, ap, ◌∙◌, arith, inl, inr}
use Rattle.std.proofs.lemmas.Bool.{and_parts, eqb-true, cases_lt}
use Rattle.std.proofs.lemmas.List.{append_assoc}
use Rattle.a429_text.specs.Nibbles.{nibble, nibbles}
use Rattle.a429_text.specs.declared.from_end.TheConstants.{DIGITS}

pub nibbles-suc : (k n : ℕ) → nibbles (suc k) n ≡ nibbles k (n / 16) ++ nibble (n % 16) ∷ []
unfolding nibbles
nibbles-suc k n = refl

pub none-left : (n : ℕ) → nibbles 0 n ≡ []
unfolding nibbles
none-left n = refl

-- the digits that are left, and after them the two of the lowest byte
pub two-more : (k n : ℕ) (written : List ℕ) → nibbles k (n / 256) ++ nibble (n % 256 / 16) ∷ nibble (n % 256 % 16) ∷ written ≡ nibbles (suc (suc k)) n ++ written
two-more k n written =
    let left : n / 256 ≡ n / 16 / 16 = omega arith in
    let high : n % 256 / 16 ≡ n / 16 % 16 = omega arith in
    let low : n % 256 % 16 ≡ n % 16 = omega arith in
    rw (left, high, low)
    (sym (append_assoc (nibbles k (n / 16 / 16)) (nibble (n / 16 % 16) ∷ []) (nibble (n % 16) ∷ written))
    ∙ ap (λ (l : List ℕ). l ++ nibble (n % 16) ∷ written) (sym (nibbles-suc k (n / 16)))
    ∙ sym (append_assoc (nibbles (suc k) (n / 16)) (nibble (n % 16) ∷ []) written)
    ∙ ap (λ (l : List ℕ). l ++ written) (sym (nibbles-suc (suc k) n)))

-- ---- the table

-- each byte below this number has its digits in the table
are_digits : ℕ → Bool
are_digits zero = true
are_digits (suc b) = (eqb (get_or DIGITS (b * 2) 0) (nibble (b / 16)) && eqb (get_or DIGITS (b * 2 + 1) 0) (nibble (b % 16))) && are_digits b

abbrev HasDigits : ℕ → Type 0
HasDigits b = (get_or DIGITS (b * 2) 0 ≡ nibble (b / 16)) × (get_or DIGITS (b * 2 + 1) 0 ≡ nibble (b % 16))

has_digits : (n b : ℕ) → are_digits n ≡ true → b < n → HasDigits b
unfolding are_digits
has_digits zero b all below = absurd (omega arith)
has_digits (suc n) b all below =
    elim (cases_lt b n) [
      | inl less ↦ has_digits n b (and_parts _ (are_digits n) all).1 less
      | inr last ↦
          let is : b ≡ n = omega arith in
          let both = and_parts _ _ (and_parts _ (are_digits n) all).0 in
          rw is (eqb-true _ _ both.0, eqb-true _ _ both.1)
    ]

pub digits_of : (b : ℕ) → b < 256 → HasDigits b
unfolding are_digits nibble
digits_of b below = has_digits 256 b refl below
