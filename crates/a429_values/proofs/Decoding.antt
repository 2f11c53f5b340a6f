-- What a number of the table says is the load that it stands for.
use Rattle.std.proofs.Common.{◌≡◌, ◌≢◌, ℕ, zero, suc, ◌+◌, ◌/◌, ◌%◌, ◌^◌, ◌<◌, Some, None, Option, sym, ap, ◌∙◌, arith}
use Rattle.std.specs.Prelude.{IsTrue}
use Rattle.std.proofs.lemmas.Nat.{div-mul-add, mod-mul-add}
use Rattle.a429_word.specs.Bits.{number_from, has_odd_parity, label_of}
use Rattle.a429_equipment.specs.declared.loads.Load.{Load}
use Rattle.a429_values.specs.Words.{packed, HasLabel, IsCounted, Tells}
use Rattle.a429_word.proofs.Fields.{power_next}

below : (n count raw : ℕ) → number_from n count raw < 2 ^ count
unfolding number_from
below n zero raw = omega arith
below n (suc count) raw = let rest = below (n + 1) count raw in omega (arith, rest, power_next count)

-- a word is determined by its label and bits 9 to 31
abbrev Determined : Type 0
Determined = (v w : ℕ) → v < 2 ^ 32 → w < 2 ^ 32 → IsTrue (has_odd_parity v) → IsTrue (has_odd_parity w) → label_of v ≡ label_of w → number_from 9 23 v ≡ number_from 9 23 w → v ≡ w

module _ (s label number w : ℕ) (some : number / 8388608 ≢ 0) (has : HasLabel label w) (bits : number_from 9 23 w ≡ number % 8388608) (determined : Determined) where
  parts : (source count : ℕ) (word : Option ℕ) → source ≡ s → number ≡ packed count word → IsCounted label count word
      → (source ≡ s) × (count ≡ number / 8388608) × (word ≡ Some w)
  parts source count None is stands counted = absurd (some (omega (arith, stands)))
  parts source count (Some x) is stands counted =
      let small : number_from 9 23 x < 8388608 = below 9 23 x in
      let high : count ≡ number / 8388608 = sym (ap (λ (n : ℕ). n / 8388608) stands ∙ div-mul-add count 8388608 (number_from 9 23 x) small) in
      let low : number_from 9 23 x ≡ number % 8388608 = sym (ap (λ (n : ℕ). n % 8388608) stands ∙ mod-mul-add count 8388608 (number_from 9 23 x) small) in
      let same : x ≡ w = determined x w counted.1.0 has.0 counted.1.1 has.1 (counted.1.2 ∙ sym has.2) (low ∙ sym bits) in
      (is, high, ap (λ (y : ℕ). Some y) same)

  pub decoded : (l : Load) → Tells s label number l → l ≡ record { source = s; count = number / 8388608; word = Some w }
  decoded l h =
      let p = parts l.source l.count l.word h.source h.stands h.counted in
      λ i. record { source = p.0 i; count = p.1 i; word = p.2 i }
