use Rattle.std.proofs.Common.{rules, ◌≡◌, ◌∙◌, ◌+◌, ap, List, ℕ, length, arith}
use Rattle.a429_logs.specs.LogColumns.{width_from, width_of}
use Rattle.a429_logs.specs.LogFields.{fields_left}
use Rattle.a429_logs.proofs.FoundColumns.{fields_few, width-end}
use Rattle.a429_logs.proofs.columns.Width.of.Goals as goal

pub loop-place-init : goal.loop-place-init
unfolding width_of
loop-place-init c = record {
  width = ap (λ (fields : List (List ℕ)). width_from (record { all = 0; bare = 0 }) fields) c.of-fields.ensures;
  all = omega arith;
  counted = omega (arith, ap (λ (fields : List (List ℕ)). length fields) c.of-fields.ensures);
}

pub returns-clause-width : goal.returns-clause-width
returns-clause-width c =
    let line = c.args.line.now in
    let last : c.loop-place.place ≡ length line + 1 = search rules in
    let none : length (fields_left c.loop-place.fields) ≡ 0 = omega (arith, last, c.loop-place.invariant.counted, fields_few c.args.separator line) in
    width-end c.loop-place.width (fields_left c.loop-place.fields) none ∙ c.loop-place.invariant.width

pub returns-clause-all : goal.returns-clause-all
returns-clause-all c =
    let line = c.args.line.now in
    let last : c.loop-place.place ≡ length line + 1 = search rules in
    omega (arith, last, c.loop-place.invariant.all, c.loop-place.invariant.counted, fields_few c.args.separator line)
