-- Outputs whose offsets differ modulo 16 share no cell if their periods are multiples of 16.
use Rattle.std.proofs.Common.{◌≡◌, ℕ, ◌%◌, min, Bool, true, false, not, eqb, sym, ap, ◌∙◌, arith, inl, inr}
use Rattle.std.proofs.Math.Nat.{mod-mod_of_dvd}
use Rattle.std.proofs.lemmas.Bool.{and_parts, cases_lt, eqb-true}
use Rattle.std.proofs.lemmas.Nat.Gcd.{dvd_of_mod-eq-zero}
use Rattle.a429_word.proofs.Lists.{and_false, false_unless}
use Rattle.a429_cert.specs.Spelling.{Listing}
use Rattle.a429_cert.specs.Faults.{differ_by_class, shares}

same_class : (m a b : ℕ) → m % 16 ≡ 0 → a % m ≡ b % m → a % 16 ≡ b % 16
same_class m a b whole same =
    let divides = dvd_of_mod-eq-zero 16 whole in
    sym (mod-mod_of_dvd 16 a divides) ∙ ap (λ (n : ℕ). n % 16) same ∙ mod-mod_of_dvd 16 b divides

min_whole : (p q : ℕ) → p % 16 ≡ 0 → q % 16 ≡ 0 → min p q % 16 ≡ 0
min_whole p q whole-p whole-q = elim (cases_lt p q) [
  | inl lt ↦ let m : min p q ≡ p = omega arith in ap (λ (n : ℕ). n % 16) m ∙ whole-p
  | inr le ↦ let m : min p q ≡ q = omega arith in ap (λ (n : ℕ). n % 16) m ∙ whole-q
]

is_not : (b : Bool) → not b ≡ true → b ≡ true → ⊥
is_not true h t = cc
is_not false h t = cc

pub classes_apart : (l e : Listing) → differ_by_class l e ≡ true → shares l e ≡ false
classes_apart l e h =
    let outer = and_parts _ _ h in
    let inner = and_parts _ _ outer.0 in
    let whole = min_whole l.period e.period (eqb-true _ _ inner.0) (eqb-true _ _ inner.1) in
    let m : ℕ = min l.period e.period in
    and_false _ _ (false_unless (eqb (l.offset % m) (e.offset % m)) (λ same. is_not (eqb (l.offset % 16) (e.offset % 16)) outer.1
    (eqb_same _ _ (same_class m l.offset e.offset whole (eqb-true _ _ same)))))
  where
    eqb_same : (a b : ℕ) → a ≡ b → eqb a b ≡ true
    eqb_same a b same = grind arith
