use Rattle.std.proofs.Common.{◌+◌, arith}
use Rattle.a429_word.proofs.Numerals.{digit_step, value_below}
use Rattle.a429_word.proofs.decimal.digits_value.Goals as goal

pub overflow_mul-value : goal.overflow_mul-value
overflow_mul-value c =
    let step = digit_step c.args.digits.now c.loop-digit.digit-index c.requires.digits c.loop-digit-test.true in
    let below = value_below c.args.digits.now (c.loop-digit.digit-index + 1) in
    omega (arith, step.0, below, c.requires.fits)

pub overflow_add-value : goal.overflow_add-value
overflow_add-value c =
    let step = digit_step c.args.digits.now c.loop-digit.digit-index c.requires.digits c.loop-digit-test.true in
    let below = value_below c.args.digits.now (c.loop-digit.digit-index + 1) in
    omega (arith, step.0, below, c.requires.fits, c.from.ensures)

pub loop-digit-preserved : goal.loop-digit-preserved
loop-digit-preserved c =
    let step = digit_step c.args.digits.now c.loop-digit.digit-index c.requires.digits c.loop-digit-test.true in
    omega (arith, step.0, c.from.ensures)
