-- The table of the values of hexadecimal digits.
use Rattle.std.proofs.Common.{◌≡◌, ◌∙◌, ◌<◌, ◌≤◌, ℕ, zero, suc, Bool, true, false, get_or, arith, ap, subst, sym, refl, inl, inr}
use Rattle.std.specs.Prelude.{◌==◌, ◌&&◌, Option, Some, None, if◌then◌else◌, nat_lt}
use Rattle.std.proofs.lemmas.Bool.{and_parts, cases_lt}
use Rattle.std.proofs.lemmas.Bool.Decides.{nat_tests}
use Rattle.a429_word.specs.Hexadecimal.{hex_digit}
use Rattle.a429_logs.specs.declared.hexadecimal.TheConstants.{VALUES}

-- a digit by its value in the table
abbrev pub by_value : ℕ → Option ℕ
by_value v = if nat_lt v 16 then Some v else None

abbrev same : Option ℕ → Option ℕ → Bool
same None None = true
same (Some a) (Some b) = a == b
same _ _ = false

-- the values of the bytes below this one are those of the digits
abbrev are_values : ℕ → Bool
are_values zero = true
are_values (suc c) = same (by_value (get_or VALUES c 0)) (hex_digit c) && are_values c

same_is : (a b : Option ℕ) → same a b ≡ true → a ≡ b
same_is None None is = refl
same_is None (Some b) is = absurd (cc is)
same_is (Some a) None is = absurd (cc is)
same_is (Some a) (Some b) is = let equal : a ≡ b = grind (arith, nat_tests) in ap (λ (n : ℕ). Some n) equal

below : (n c : ℕ) → are_values n ≡ true → c < n → by_value (get_or VALUES c 0) ≡ hex_digit c
below zero c all less = absurd (omega (arith, less))
below (suc n) c all less =
    let parts = and_parts (same (by_value (get_or VALUES n 0)) (hex_digit n)) (are_values n) all in
    elim (cases_lt c n) [
      | inl lower ↦ below n c parts.1 lower
      | inr other ↦
          let last : n ≡ c = omega arith in
          subst (λ (k : ℕ). by_value (get_or VALUES k 0) ≡ hex_digit k) last (same_is (by_value (get_or VALUES n 0)) (hex_digit n) parts.0)
    ]

VALUES_at : (c : ℕ) → c < 256 → by_value (get_or VALUES c 0) ≡ hex_digit c
VALUES_at c less = below 256 c refl less

pub digit_at : (c v : ℕ) → c < 256 → v ≡ get_or VALUES c 0 → v < 16 → Some v ≡ hex_digit c
digit_at c v less is few =
    let digit : nat_lt v 16 ≡ true = grind (arith, nat_tests) in
    let by : by_value v ≡ Some v = rw digit refl in
    sym by ∙ ap by_value is ∙ VALUES_at c less

pub none_at : (c v : ℕ) → c < 256 → v ≡ get_or VALUES c 0 → 16 ≤ v → None ≡ hex_digit c
none_at c v less is many =
    let other : nat_lt v 16 ≡ false = grind (arith, nat_tests) in
    let by : by_value v ≡ None = rw other refl in
    sym by ∙ ap by_value is ∙ VALUES_at c less
