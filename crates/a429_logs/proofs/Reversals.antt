-- The bits of a word reversed, by the machine's reversal.
use Rattle.std.proofs.Common.{◌≡◌, ◌∙◌, ℕ, ◌/◌, ◌%◌, ◌^◌, ap, arith, zero-add}
use Rattle.std.specs.Int.{reverse_bits_onto}
use Rattle.a429_word.specs.Bits.{reversed_from}
use Rattle.a429_word.proofs.Fields.{label_reversed, reversal_is}

pub reversed_label : (raw : ℕ) → reverse_bits_onto 8 (raw % 256) 0 ≡ reversed_from 1 8 raw
reversed_label raw = label_reversed raw

pub reversed_word : (raw : ℕ) → reverse_bits_onto 32 raw 0 ≡ reversed_from 1 32 raw
reversed_word raw =
    let whole : raw ≡ raw / 2 ^ 0 = omega arith in
    ap (λ (n : ℕ). reverse_bits_onto 32 n 0) whole ∙ reversal_is 32 0 raw 0 ∙ zero-add (reversed_from 1 32 raw)
