use Rattle.std.proofs.Common.{◌<◌, ◌+◌, ◌-◌, ◌/◌, ◌∙◌, sym, arith, length, get_or}
use Rattle.std.proofs.lemmas.List.{length-map}
use Rattle.a429_survey.specs.Kept.{names_in}
use Rattle.a429_survey.proofs.Places.{named_at, no_line, place_above, place_below, place_within}
use Rattle.a429_survey.proofs.names.place_for.Goals as goal

pub loop-low-init : goal.loop-low-init
loop-low-init c = (
  omega arith,
  omega (arith, place_within c.args.name.now (names_in c.args.lines.now), length-map c.args.lines.now (λ l. l.name)),
  omega arith,
)

pub loop-low-preserved-then-is_before : goal.loop-low-preserved-then-is_before
loop-low-preserved-then-is_before c =
    let middle = c.loop-low.low + (c.loop-low.high - c.loop-low.low) / 2 in
    let within : middle < length c.args.lines.now = omega (arith, c.loop-low-test.true, c.loop-low.invariant.2) in (
      place_above c.args.name.now (get_or c.args.lines.now middle no_line).name (names_in c.args.lines.now) middle c.requires
          (named_at c.args.lines.now middle no_line within) (sym (c.is_before.ensures no_line) ∙ c.if-is_before.true),
      c.loop-low.invariant.1,
      c.loop-low.invariant.2,
    )

pub loop-low-preserved : goal.loop-low-preserved
loop-low-preserved c =
    let middle = c.loop-low.low + (c.loop-low.high - c.loop-low.low) / 2 in
    let within : middle < length c.args.lines.now = omega (arith, c.loop-low-test.true, c.loop-low.invariant.2) in (
      c.loop-low.invariant.0,
      place_below c.args.name.now (get_or c.args.lines.now middle no_line).name (names_in c.args.lines.now) middle
          (named_at c.args.lines.now middle no_line within) (sym (c.is_before.ensures no_line) ∙ c.if-is_before.false),
      omega (arith, within),
    )
