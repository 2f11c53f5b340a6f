use Rattle.std.proofs.Common.{◌≡◌, ◌∙◌, ◌++◌, ℕ, ap, rules, arith, take}
use Rattle.std.specs.Str.Parse.{digits_value}
use Rattle.a429_logs.specs.LogTicks.{in_18_digits}
use Rattle.a429_logs.specs.LogTimes.{first_digits}
use Rattle.a429_logs.proofs.MovedDigits.{few_digits, many_digits, next_place, places-all}
use Rattle.a429_logs.proofs.exponents.first_value.Goals as goal

pub returns-then-value-ge-LIMIT : goal.returns-then-value-ge-LIMIT
returns-then-value-ge-LIMIT c =
    let next = next_place c.args.count c.args.whole.now c.args.fraction.now c.loop-place.place c.requires.whole c.requires.fraction c.loop-place-test.true in
    many_digits _ (omega (arith, next.next, next.below, c.loop-place.invariant.value, c.from.ensures, c.digit_of.ensures, c.if-value-ge-LIMIT.true))

pub loop-place-preserved : goal.loop-place-preserved
loop-place-preserved c =
    let next = next_place c.args.count c.args.whole.now c.args.fraction.now c.loop-place.place c.requires.whole c.requires.fraction c.loop-place-test.true in
    record {
      value = omega (arith, next.next, c.loop-place.invariant.value, c.from.ensures, c.digit_of.ensures);
      few = omega (arith, c.if-value-ge-LIMIT.false);
    }

pub returns : goal.returns
returns c =
    let digits = c.args.whole.now ++ c.args.fraction.now in
    let last : c.loop-place.place ≡ c.args.count = search rules in
    let value = c.loop-place.invariant.value ∙ ap (λ (n : ℕ). digits_value 10 (take n (first_digits c.args.count digits))) last ∙ ap (digits_value 10) (places-all c.args.count digits) in
    few_digits _ c.loop-place.invariant.few ∙ ap in_18_digits value
