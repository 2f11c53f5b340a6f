use Rattle.std.proofs.Common.{◌+◌, ◌*◌, ◌^◌, ◌<◌, ◌≤◌, ℕ, arith, rules}
use Rattle.std.proofs.Math.Nat.{pow-le-pow_right}
use Rattle.a429_logs.proofs.ticks.hex_count.Goals as goal

-- one more digit after at most fifteen
count_fits : (count d i : ℕ) → i < 16 → count < 16 ^ i → d < 16 → count * 16 + d < 18446744073709551616
count_fits count d i few small digit =
    let most : i ≤ 15 = omega (arith, few) in
    let top : 16 ^ i ≤ 16 ^ 15 = pow-le-pow_right (omega arith) most in
    omega (arith, top, small, digit)

pub overflow_mul-count : goal.overflow_mul-count
overflow_mul-count c = omega (arith, count_fits c.loop-digit.count 0 c.loop-digit.digit-index (omega arith) c.loop-digit.invariant.small (omega arith))

pub overflow_add-count : goal.overflow_add-count
overflow_add-count c =
    let digit : c.in_ok-hex_digit.field-0 < 16 = search rules in
    omega (arith, count_fits c.loop-digit.count c.in_ok-hex_digit.field-0 c.loop-digit.digit-index (omega arith) c.loop-digit.invariant.small digit, c.from.ensures)
