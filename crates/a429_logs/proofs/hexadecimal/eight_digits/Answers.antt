use Rattle.std.proofs.Common.{◌+◌, ◌*◌, ◌^◌, ◌<◌, ◌≤◌, ℕ, arith, rules}
use Rattle.std.proofs.Math.Nat.{pow-le-pow_right}
use Rattle.a429_logs.proofs.hexadecimal.eight_digits.Goals as goal

-- one more digit after at most seven
word_fits : (raw d i : ℕ) → i < 8 → raw < 16 ^ i → d < 16 → raw * 16 + d < 4294967296
word_fits raw d i few small digit =
    let most : i ≤ 7 = omega (arith, few) in
    let top : 16 ^ i ≤ 16 ^ 7 = pow-le-pow_right (omega arith) most in
    omega (arith, top, small, digit)

pub overflow_mul-raw : goal.overflow_mul-raw
overflow_mul-raw c = omega (arith, word_fits c.loop-digit.raw 0 c.loop-digit.digit-index (omega arith) c.loop-digit.invariant.small (omega arith))

pub overflow_add-raw : goal.overflow_add-raw
overflow_add-raw c =
    let digit : c.in_ok-raw.field-0 < 16 = search rules in
    omega (arith, word_fits c.loop-digit.raw c.in_ok-raw.field-0 c.loop-digit.digit-index (omega arith) c.loop-digit.invariant.small digit)
