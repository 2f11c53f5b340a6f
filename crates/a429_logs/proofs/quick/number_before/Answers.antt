use Rattle.std.proofs.Common.{rules, ◌≡◌, ◌<◌, ℕ, true, arith, get_or, length}
use Rattle.std.specs.Char.{is_ascii_digit}
use Rattle.a429_logs.proofs.ReadDigits.{next_digit}
use Rattle.a429_logs.proofs.quick.number_before.Goals as goal

pub overflow_mul-number : goal.overflow_mul-number
overflow_mul-number c =
    let text = c.args.text.now in
    let i : ℕ = c.loop-place.place in
    let within : i < length text = search rules in
    let early : i < 18 = search rules in
    let digit : is_ascii_digit (get_or text i 0) ≡ true = search rules in
    let N = next_digit text i c.loop-place.invariant.all within digit early in
    omega (arith, N.value, N.few, c.loop-place.invariant.value)

pub overflow_add-number : goal.overflow_add-number
overflow_add-number c =
    let text = c.args.text.now in
    let i : ℕ = c.loop-place.place in
    let within : i < length text = search rules in
    let early : i < 18 = search rules in
    let digit : is_ascii_digit (get_or text i 0) ≡ true = search rules in
    let N = next_digit text i c.loop-place.invariant.all within digit early in
    omega (arith, N.value, N.few, c.loop-place.invariant.value, c.from.ensures)

pub loop-place-preserved : goal.loop-place-preserved
loop-place-preserved c =
    let text = c.args.text.now in
    let i : ℕ = c.loop-place.place in
    let within : i < length text = search rules in
    let early : i < 18 = search rules in
    let digit : is_ascii_digit (get_or text i 0) ≡ true = search rules in
    let N = next_digit text i c.loop-place.invariant.all within digit early in
    record { value = omega (arith, N.value, c.loop-place.invariant.value, c.from.ensures); all = N.all }
