-- What a word says, by shifts and masks.
use Rattle.std.proofs.Common.{◌≡◌, ℕ, ◌+◌, ◌*◌, ◌/◌, ◌%◌, ◌^◌, ◌<◌, ◌≤◌, sym, ◌∙◌, arith, lit≤}
use Rattle.std.specs.Prelude.{bit_and}
use Rattle.std.proofs.lemmas.Nat.{and_mask}
use Rattle.a429_word.proofs.Fields as fields
use Rattle.a429_word.proofs.Ones.{number_is}
use Rattle.a429_word.specs.Bits.{bit, number_from, ssm_of}

-- ---- the SSM

pub ssm_is : (raw : ℕ) → (bit_and (raw / 536870912) 3 ≡ ssm_of raw) × (ssm_of raw < 4)
ssm_is raw = (fields.ssm_is raw, omega (arith, number_is 29 2 raw))

-- ---- BNR

pub magnitude_is : (raw : ℕ) → (bit_and (raw / 1024) 262143 ≡ number_from 11 18 raw) × (number_from 11 18 raw < 2 ^ 18)
magnitude_is raw = (and_mask (raw / 1024) 18 ∙ sym (number_is 10 18 raw), omega (arith, number_is 10 18 raw))

pub sign_is : (raw : ℕ) → (bit_and (raw / 268435456) 1 * 262144 % 4294967296 ≡ 2 ^ 18 * bit 29 raw) × (2 ^ 18 * bit 29 raw ≤ 2 ^ 18)
sign_is raw = fields.sign_is raw 18 (lit≤ tt)

-- ---- BCD

pub high_digit_is : (raw : ℕ) → (bit_and (raw / 67108864) 7 ≡ number_from 27 3 raw) × (number_from 27 3 raw < 8)
high_digit_is raw = (fields.three_bits raw, omega (arith, number_is 26 3 raw))

pub digit_is : (raw low : ℕ) → (bit_and (raw / 2 ^ low) 15 ≡ number_from (low + 1) 4 raw) × (number_from (low + 1) 4 raw < 16)
digit_is raw low = (and_mask (raw / 2 ^ low) 4 ∙ sym (number_is low 4 raw), omega (arith, number_is low 4 raw))
