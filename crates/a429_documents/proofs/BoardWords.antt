-- A word without data.
use Rattle.std.proofs.Common.{◌≡◌, ℕ, ◌+◌, ◌*◌, ◌%◌, ◌^◌, ◌<◌, ◌∙◌, Bool, true, false, ap, sym, subst, refl, arith}
use Rattle.std.specs.Prelude.{count_ones, bit_or, IsTrue, if◌then◌else◌}
use Rattle.std.specs.Int.{reverse_bits_onto}
use Rattle.std.proofs.lemmas.Nat.{or_comm, or_shifted}
use Rattle.a429_word.specs.Bits.{has_odd_parity, label_of, number_from, reversed_from}
use Rattle.a429_word.proofs.Building.{bits_kept, data_built, label_built, odd_by_count, odd_by_top, sdi_built, ssm_built}
use Rattle.a429_word.proofs.Fields.{label_reversed, same_word}
use Rattle.a429_word.proofs.Lists.{clash}
use Rattle.a429_documents.specs.SlotBoard.{BoardWordsHaveNoData, IsWordWithoutData, bits_below_parity, board_word}
use Rattle.a429_documents.proofs.Words.{turned_below}

-- ---- the word

-- bit 32 above the others
low_of : (b : Bool) (n : ℕ) → n < 2 ^ 31 → (if b then n else 2 ^ 31 + n) % 2 ^ 31 ≡ n
low_of true n short = omega (arith, short)
low_of false n short = omega (arith, short)

range_of : (b : Bool) (n : ℕ) → n < 2 ^ 31 → (if b then n else 2 ^ 31 + n) < 2 ^ 32
range_of true n short = omega (arith, short)
range_of false n short = omega (arith, short)

odd_of : (b : Bool) (n : ℕ) → n < 2 ^ 31 → has_odd_parity n ≡ b → IsTrue (has_odd_parity (if b then n else 2 ^ 31 + n))
odd_of true n short is = is
odd_of false n short is =
    let even : count_ones n % 2 ≡ 1 → ⊥ = λ odd. clash (sym is ∙ odd_by_count n (omega (arith, short)) odd) in
    let top : bit_or n 2147483648 ≡ 2 ^ 31 + n = or_comm n 2147483648 ∙ or_shifted 1 31 n short ∙ omega arith in
    subst (λ (m : ℕ). IsTrue (has_odd_parity m)) top (odd_by_top n short even)

module _ (label sdi : ℕ) (few : label < 256) (small : sdi < 4) where
  turned : reversed_from 1 8 label ≡ reverse_bits_onto 8 label 0
  turned =
      let whole : label % 256 ≡ label = omega (arith, few) in
      sym (label_reversed label) ∙ ap (λ (n : ℕ). reverse_bits_onto 8 n 0) whole

  bits_are : bits_below_parity label sdi ≡ reverse_bits_onto 8 label 0 + 256 * sdi
  bits_are = ap (λ (n : ℕ). n + 256 * sdi) turned

  short : bits_below_parity label sdi < 2 ^ 31
  short = omega (arith, bits_are, turned_below label, small)

  low : board_word label sdi % 2 ^ 31 ≡ bits_below_parity label sdi
  unfolding board_word
  low = low_of (has_odd_parity (bits_below_parity label sdi)) (bits_below_parity label sdi) short

  range : board_word label sdi < 2 ^ 32
  unfolding board_word
  range = range_of (has_odd_parity (bits_below_parity label sdi)) (bits_below_parity label sdi) short

  odd : IsTrue (has_odd_parity (board_word label sdi))
  unfolding board_word
  odd = odd_of (has_odd_parity (bits_below_parity label sdi)) (bits_below_parity label sdi) short refl

  fields : board_word label sdi % 2 ^ 31 ≡ reverse_bits_onto 8 label 0 + 256 * sdi + 1024 * 0 + 2 ^ 29 * 0
  fields = low ∙ bits_are ∙ omega arith

  has_no_data : IsWordWithoutData label sdi (board_word label sdi)
  has_no_data = record {
    range = range;
    odd = odd;
    label_is = label_built (board_word label sdi) label sdi 0 0 few (turned_below label) fields;
    sdi_is = sdi_built (board_word label sdi) (reverse_bits_onto 8 label 0) sdi 0 0 (turned_below label) small fields;
    data_is = data_built (board_word label sdi) (reverse_bits_onto 8 label 0) sdi 0 0 (turned_below label) small (omega arith) fields;
    ssm_is = ssm_built (board_word label sdi) (reverse_bits_onto 8 label 0) sdi 0 0 (turned_below label) small (omega arith) (omega arith) fields;
  }

  -- the word of this label, whose bits 9 to 31 are the SDI
  pub board_word_is : (raw : ℕ) → raw < 2 ^ 32 → IsTrue (has_odd_parity raw) → label_of raw ≡ label → number_from 9 23 raw ≡ sdi → raw ≡ board_word label sdi
  board_word_is raw below its label_is bits =
      let own : label_of (board_word label sdi) ≡ label = label_built (board_word label sdi) label sdi 0 0 few (turned_below label) fields in
      let rest : number_from 9 23 (board_word label sdi) ≡ sdi =
      bits_kept (board_word label sdi) (reverse_bits_onto 8 label 0) sdi (turned_below label) (omega (arith, small)) (low ∙ bits_are) in
      same_word raw (board_word label sdi) below range its odd (label_is ∙ sym own) (bits ∙ sym rest)

pub board_words_have_no_data : BoardWordsHaveNoData
board_words_have_no_data = has_no_data
