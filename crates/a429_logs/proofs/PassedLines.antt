-- Lines that are passed over, by their first byte.
use Rattle.std.proofs.Common.{◌≡◌, ◌∙◌, ◌-◌, ◌<◌, ◌≤◌, ◌∷◌, [], ℕ, suc, true, false, List, get_or, length, refl, reverse, ap, subst, arith, inl, inr}
use Rattle.std.specs.Prelude.{◌==◌}
use Rattle.std.specs.List.{suffix_len}
use Rattle.std.specs.Char.{is_ascii_whitespace}
use Rattle.std.proofs.lemmas.Bool.{cases_lt}
use Rattle.std.proofs.lemmas.List.{get_or-reverse}
use Rattle.std.proofs.lemmas.List.Sums.{prefix_len_passes}
use Rattle.a429_logs.specs.LogFields.{trimmed}
use Rattle.a429_logs.specs.Logs.{is_passed_over}

-- not all bytes of a text are blanks at its end
few_blanks : (c : ℕ) (cs : List ℕ) → is_ascii_whitespace c ≡ false → suffix_len is_ascii_whitespace (c ∷ cs) ≤ length cs
few_blanks c cs first =
    let line = c ∷ cs in
    elim (cases_lt (length cs) (suffix_len is_ascii_whitespace line)) [
      | inl many ↦
          let blank : is_ascii_whitespace (get_or (reverse line) (length cs) 0) ≡ true = prefix_len_passes is_ascii_whitespace (reverse line) (length cs) 0 many in
          let place : suc (length cs) - 1 - length cs ≡ 0 = omega arith in
          let last : get_or (reverse line) (length cs) 0 ≡ c = get_or-reverse line (length cs) 0 (omega arith) ∙ ap (λ (k : ℕ). get_or line k 0) place in
          let both : is_ascii_whitespace c ≡ true = subst (λ (b : ℕ). is_ascii_whitespace b ≡ true) last blank in
          absurd (cc (first, both))
      | inr few ↦ few
    ]

first_left : (c : ℕ) (cs : List ℕ) → is_ascii_whitespace c ≡ false → is_passed_over (c ∷ cs) ≡ (c == 35)
unfolding is_passed_over trimmed
first_left c cs first =
    let blanks : ℕ = suffix_len is_ascii_whitespace (c ∷ cs) in
    let few = few_blanks c cs first in
    let some : suc (length cs) - blanks ≡ suc (length cs - blanks) = omega arith in
    rw (first, some) refl

pub passed_first : (line : List ℕ) → 0 < length line → is_ascii_whitespace (get_or line 0 0) ≡ false → is_passed_over line ≡ (get_or line 0 0 == 35)
passed_first [] some first = absurd (omega (arith, some))
passed_first (c ∷ cs) some first = first_left c cs first
