use Rattle.std.proofs.Common.{◌≡◌, ◌∙◌, ◌+◌, ◌<◌, ℕ, ap, rules, arith, length, take}
use Rattle.std.specs.Str.Parse.{digits_value}
use Rattle.a429_logs.specs.LogTimes.{decimals, in_micros, micros, micros_digits}
use Rattle.a429_logs.proofs.MicrosDigits.{micros-all, next_decimal}
use Rattle.a429_logs.proofs.times.micros.Goals as goal

pub overflow_mul-micros : goal.overflow_mul-micros
overflow_mul-micros c =
    let within : c.loop-place.place < decimals c.args.unit = search rules in
    let next = next_decimal c.args.unit c.args.whole.now c.args.fraction.now c.loop-place.place c.requires.whole c.requires.fraction within in
    omega (arith, next.next, next.few, c.loop-place.invariant)

pub overflow_add-micros : goal.overflow_add-micros
overflow_add-micros c =
    let within : c.loop-place.place < decimals c.args.unit = search rules in
    let next = next_decimal c.args.unit c.args.whole.now c.args.fraction.now c.loop-place.place c.requires.whole c.requires.fraction within in
    omega (arith, next.next, next.few, c.loop-place.invariant, c.from.ensures, c.digit_at.ensures)

pub loop-place-preserved : goal.loop-place-preserved
loop-place-preserved c =
    let within : c.loop-place.place < decimals c.args.unit = search rules in
    let next = next_decimal c.args.unit c.args.whole.now c.args.fraction.now c.loop-place.place c.requires.whole c.requires.fraction within in
    omega (arith, next.next, c.loop-place.invariant, c.from.ensures, c.digit_at.ensures)

pub returns : goal.returns
unfolding micros
returns c =
    let unit = c.args.unit in
    let whole = c.args.whole.now in
    let fraction = c.args.fraction.now in
    let last : c.loop-place.place ≡ decimals unit = search rules in
    let number = c.loop-place.invariant ∙ ap (λ (n : ℕ). digits_value 10 (take (length whole + n) (micros_digits unit whole fraction))) last
    ∙ ap (digits_value 10) (micros-all unit whole fraction) in
    c.in_micros.ensures ∙ ap (in_micros unit) number
