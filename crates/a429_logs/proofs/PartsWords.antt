-- A word by its fields is the one word of odd parity that has them.
use Rattle.std.proofs.Common.{◌≡◌, ◌∙◌, ℕ, ◌+◌, ◌*◌, ◌%◌, ◌^◌, ◌<◌, Bool, true, false, refl, sym, ap, subst, arith}
use Rattle.std.specs.Prelude.{IsTrue, bit_or, count_ones}
use Rattle.std.specs.Int.{reverse_bits_onto}
use Rattle.std.proofs.lemmas.Bool.Decides.{nat_tests}
use Rattle.std.proofs.lemmas.Nat.{or_comm, or_shifted}
use Rattle.a429_word.specs.Bits.{data_of, has_odd_parity, label_of, ones_from, reversed_from, sdi_of, ssm_of}
use Rattle.a429_word.proofs.Building.{data_built, label_built, odd_by_top, sdi_built, ssm_built}
use Rattle.a429_word.proofs.Fields.{label_reversed, same_fields}
use Rattle.a429_word.proofs.Ones.{ones_are}
use Rattle.a429_logs.specs.LogRows.{with_parity, word_bits}

pub reversed_small : (label : ℕ) → reversed_from 1 8 label < 256
unfolding reversed_from
reversed_small label = omega arith

-- the fields and the parity of a word
pub record IsBuilt (label sdi value ssm raw : ℕ) : Type 0 where
  pub small : raw < 2 ^ 32
  pub odd : IsTrue (has_odd_parity raw)
  pub label_is : label_of raw ≡ label
  pub sdi_is : sdi_of raw ≡ sdi
  pub value_is : data_of raw ≡ value
  pub ssm_is : ssm_of raw ≡ ssm

pub bits_small : (label sdi value ssm : ℕ) → sdi < 4 → value < 2 ^ 19 → ssm < 4 → word_bits label sdi value ssm < 2 ^ 31
bits_small label sdi value ssm s v m = omega (arith, reversed_small label)

-- with its low 31 bits
by_bits : (label sdi value ssm raw : ℕ) → label < 256 → sdi < 4 → value < 2 ^ 19 → ssm < 4 → raw < 2 ^ 32 → IsTrue (has_odd_parity raw)
    → raw % 2 ^ 31 ≡ word_bits label sdi value ssm → IsBuilt label sdi value ssm raw
by_bits label sdi value ssm raw l s v m small odd low =
    let whole : label % 256 ≡ label = omega arith in
    let back : reverse_bits_onto 8 label 0 ≡ reversed_from 1 8 label = ap (λ (n : ℕ). reverse_bits_onto 8 n 0) (sym whole) ∙ label_reversed label in
    let few : reverse_bits_onto 8 label 0 < 256 = omega (arith, back, reversed_small label) in
    let here : raw % 2 ^ 31 ≡ reverse_bits_onto 8 label 0 + 256 * sdi + 1024 * value + 2 ^ 29 * ssm = omega (arith, low, back) in
    record {
      small = small;
      odd = odd;
      label_is = label_built raw label sdi value ssm l few here;
      sdi_is = sdi_built raw (reversed_from 1 8 label) sdi value ssm (reversed_small label) s low;
      value_is = data_built raw (reversed_from 1 8 label) sdi value ssm (reversed_small label) s v low;
      ssm_is = ssm_built raw (reversed_from 1 8 label) sdi value ssm (reversed_small label) s v m low;
    }

no_odd_count : (bits : ℕ) → bits < 2 ^ 31 → has_odd_parity bits ≡ false → count_ones bits % 2 ≡ 1 → ⊥
no_odd_count bits small even one =
    let ones : ones_from 1 32 bits % 2 ≡ 1 = ap (λ (n : ℕ). n % 2) (ones_are bits (omega (arith, small))) ∙ one in
    grind (arith, nat_tests)

is_odd : (bits : ℕ) → has_odd_parity bits ≡ true → IsTrue (has_odd_parity bits)
is_odd bits e = grind (arith, nat_tests)

by_parity : (label sdi value ssm : ℕ) (odd : Bool) → has_odd_parity (word_bits label sdi value ssm) ≡ odd → label < 256 → sdi < 4 → value < 2 ^ 19 → ssm < 4
    → IsBuilt label sdi value ssm (with_parity (word_bits label sdi value ssm))
unfolding with_parity
by_parity label sdi value ssm true e l s v m =
    let bits : ℕ = word_bits label sdi value ssm in
    let small = bits_small label sdi value ssm s v m in
    rw e (by_bits label sdi value ssm bits l s v m (omega (arith, small)) (is_odd bits e) (omega (arith, small)))
by_parity label sdi value ssm false e l s v m =
    let bits : ℕ = word_bits label sdi value ssm in
    let small = bits_small label sdi value ssm s v m in
    let top : bit_or bits 2147483648 ≡ bits + 2 ^ 31 = or_comm bits 2147483648 ∙ or_shifted 1 31 bits small ∙ omega arith in
    rw e (by_bits label sdi value ssm (bits + 2 ^ 31) l s v m (omega (arith, small))
    (subst (λ (n : ℕ). IsTrue (has_odd_parity n)) top (odd_by_top bits small (no_odd_count bits small e))) (omega (arith, small)))

pub built_word : (label sdi value ssm : ℕ) → label < 256 → sdi < 4 → value < 2 ^ 19 → ssm < 4 → IsBuilt label sdi value ssm (with_parity (word_bits label sdi value ssm))
built_word label sdi value ssm l s v m = by_parity label sdi value ssm (has_odd_parity (word_bits label sdi value ssm)) refl l s v m

-- no other word has these fields
pub built_once : (label sdi value ssm v w : ℕ) → IsBuilt label sdi value ssm v → IsBuilt label sdi value ssm w → v ≡ w
built_once label sdi value ssm v w a b =
    same_fields v w a.small b.small a.odd b.odd (a.label_is ∙ sym b.label_is) (a.sdi_is ∙ sym b.sdi_is) (a.value_is ∙ sym b.value_is) (a.ssm_is ∙ sym b.ssm_is)
