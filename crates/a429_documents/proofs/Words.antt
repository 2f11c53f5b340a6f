-- A word of any label and SDI.
use Rattle.std.proofs.Common.{◌≡◌, ℕ, ◌+◌, ◌*◌, ◌%◌, ◌^◌, ◌<◌, ◌∙◌, inl, inr, ◌⊎◌, arith}
use Rattle.std.specs.Prelude.{bit_or, count_ones, IsTrue}
use Rattle.std.specs.Int.{reverse_bits_onto}
use Rattle.std.proofs.lemmas.Bool.{cases_lt}
use Rattle.std.proofs.lemmas.Nat.{or_comm, or_shifted}
use Rattle.a429_word.specs.Bits.{has_odd_parity, label_of, sdi_of}
use Rattle.a429_word.proofs.Building.{label_built, odd_by_count, odd_by_top, sdi_built}

-- a word of odd parity with this label and SDI
pub record WordOf (label sdi : ℕ) : Type 0 where
  pub raw : ℕ
  pub range : raw < 2 ^ 32
  pub odd : IsTrue (has_odd_parity raw)
  pub label_is : label_of raw ≡ label
  pub sdi_is : sdi_of raw ≡ sdi

pub turned_below : (n : ℕ) → reverse_bits_onto 8 n 0 < 256
unfolding reverse_bits_onto
turned_below n = omega arith

odd_or_not : (n : ℕ) → (n % 2 ≡ 1) ⊎ (n % 2 ≡ 1 → ⊥)
odd_or_not n = elim (cases_lt (n % 2) 1) [
  | inl less ↦ inr (λ odd. omega (arith, less, odd))
  | inr most ↦ inl (omega arith)
]

module _ (label sdi : ℕ) (few : label < 256) (small : sdi < 4) where
  built : (raw : ℕ) → raw < 2 ^ 32 → IsTrue (has_odd_parity raw) → raw % 2 ^ 31 ≡ reverse_bits_onto 8 label 0 + 256 * sdi + 1024 * 0 + 2 ^ 29 * 0 → WordOf label sdi
  built raw range odd fields = record {
    raw = raw;
    range = range;
    odd = odd;
    label_is = label_built raw label sdi 0 0 few (turned_below label) fields;
    sdi_is = sdi_built raw (reverse_bits_onto 8 label 0) sdi 0 0 (turned_below label) small fields;
  }

  pub word_of : WordOf label sdi
  word_of =
      let bits = reverse_bits_onto 8 label 0 + 256 * sdi in
      let short : bits < 2 ^ 31 = omega (arith, turned_below label, small) in
      let top : bit_or bits 2147483648 ≡ 1 * 2 ^ 31 + bits = or_comm bits 2147483648 ∙ or_shifted 1 31 bits short in
      elim (odd_or_not (count_ones bits)) [
        | inl odd ↦ built bits (omega (arith, short)) (odd_by_count bits (omega (arith, short)) odd) (omega (arith, short))
        | inr even ↦ built (bit_or bits 2147483648) (omega (arith, top, short)) (odd_by_top bits short even) (omega (arith, top, short))
      ]
