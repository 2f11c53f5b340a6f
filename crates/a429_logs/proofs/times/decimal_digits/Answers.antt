use Rattle.std.proofs.Common.{◌≡◌, ◌≤◌, ◌<◌, ℕ, true, arith, get_or, length, rules}
use Rattle.std.specs.Char.{is_ascii_digit}
use Rattle.a429_logs.proofs.ReadDigits.{next_digit}
use Rattle.a429_logs.proofs.times.decimal_digits.Goals as goal

pub overflow_mul-value : goal.overflow_mul-value
overflow_mul-value c =
    let text = c.args.text.now in
    let i : ℕ = c.loop-digit.digit-index in
    let digit : is_ascii_digit (get_or text i 0) ≡ true = search rules in
    let few : length text ≤ 18 = search rules in
    let early : i < 18 = omega arith in
    let N = next_digit text i c.loop-digit.invariant.all c.loop-digit-test.true digit early in
    omega (arith, N.value, N.few, c.loop-digit.invariant.value)

pub overflow_add-value : goal.overflow_add-value
overflow_add-value c =
    let text = c.args.text.now in
    let i : ℕ = c.loop-digit.digit-index in
    let digit : is_ascii_digit (get_or text i 0) ≡ true = search rules in
    let few : length text ≤ 18 = search rules in
    let early : i < 18 = omega arith in
    let N = next_digit text i c.loop-digit.invariant.all c.loop-digit-test.true digit early in
    omega (arith, N.value, N.few, c.loop-digit.invariant.value, c.from.ensures)

pub loop-digit-preserved : goal.loop-digit-preserved
loop-digit-preserved c =
    let text = c.args.text.now in
    let i : ℕ = c.loop-digit.digit-index in
    let digit : is_ascii_digit (get_or text i 0) ≡ true = search rules in
    let few : length text ≤ 18 = search rules in
    let early : i < 18 = omega arith in
    let N = next_digit text i c.loop-digit.invariant.all c.loop-digit-test.true digit early in
    record { value = omega (arith, N.value, c.loop-digit.invariant.value, c.from.ensures); all = N.all }
