-- A word with the other bit 32.
use Rattle.std.proofs.Common.{◌≡◌, ℕ, ◌+◌, ◌-◌, ◌*◌, ◌/◌, ◌%◌, ◌^◌, ◌<◌, Bool, true, false, refl, arith}
use Rattle.a429_word.specs.Bits.{has_odd_parity}
use Rattle.a429_logs.specs.LogRows.{with_even_parity, with_parity}

low_by : (bits word : ℕ) (odd : Bool) → has_odd_parity bits ≡ odd → bits < 2 ^ 31 → word ≡ with_parity bits → word % 2 ^ 31 ≡ bits
unfolding with_parity
low_by bits word true e small is = let same : with_parity bits ≡ bits = rw e refl in omega (arith, is, same, small)
low_by bits word false e small is = let same : with_parity bits ≡ bits + 2 ^ 31 = rw e refl in omega (arith, is, same, small)

-- the bits below bit 32
pub low_bits : (bits word : ℕ) → bits < 2 ^ 31 → word ≡ with_parity bits → word % 2 ^ 31 ≡ bits
low_bits bits word small is = low_by bits word (has_odd_parity bits) refl small is

other_by : (bits word : ℕ) (odd : Bool) → has_odd_parity bits ≡ odd → bits < 2 ^ 31 → word ≡ with_parity bits
    → word % 2 ^ 31 + 2 ^ 31 * (1 - word / 2 ^ 31) ≡ with_even_parity bits
unfolding with_parity with_even_parity
other_by bits word true e small is =
    let same : with_parity bits ≡ bits = rw e refl in
    let other : with_even_parity bits ≡ bits + 2 ^ 31 = rw e refl in
    omega (arith, is, same, other, small)
other_by bits word false e small is =
    let same : with_parity bits ≡ bits + 2 ^ 31 = rw e refl in
    let other : with_even_parity bits ≡ bits = rw e refl in
    omega (arith, is, same, other, small)

pub other_top : (bits word : ℕ) → bits < 2 ^ 31 → word ≡ with_parity bits → word % 2 ^ 31 + 2 ^ 31 * (1 - word / 2 ^ 31) ≡ with_even_parity bits
other_top bits word small is = other_by bits word (has_odd_parity bits) refl small is
