use Rattle.std.proofs.Common.{◌≡◌, ◌+◌, ◌-◌, ◌∙◌, drop, get_or, true, sym, arith}
use Rattle.std.proofs.lemmas.Bool.Decides.{nat_tests}
use Rattle.a429_judge.specs.Judging.{is_by, is_equal, no_mark}
use Rattle.a429_judge.proofs.Scanning.{none_equal, none_twice, once_later, step_second, twice_from}
use Rattle.a429_judge.proofs.windows.is_twice_from.Goals as goal

pub loop-place-init : goal.loop-place-init
loop-place-init c =
    let none = none_equal c.args.facts.now c.args.send.now c.args.accepted.now c.count_by-place.result c.count_by-place.ensures.point.1 in record {
      within = c.count_by-place.ensures.within;
      any = none;
      once = none_twice (is_equal c.args.facts.now c.args.send.now) (drop c.count_by-place.result c.args.accepted.now) none;
      by = λ k d lt. c.count_by-place.ensures.point.0 k d (omega arith) lt;
    }

pub returns-then-any : goal.returns-then-any
returns-then-any c =
    let k = c.loop-place.place - 1 in
    let next : k + 1 ≡ c.loop-place.place = omega (arith, c.loop-place-test.true) in
    let by : is_by c.args.facts.now c.args.send.now.time (get_or c.args.accepted.now k no_mark) ≡ true = c.loop-place.invariant.by k no_mark (omega arith) in
    let raw : (get_or c.args.accepted.now k no_mark).raw ≡ c.args.send.now.raw = c.if-accepted-place.true in
    let equal : is_equal c.args.facts.now c.args.send.now (get_or c.args.accepted.now k no_mark) ≡ true = grind (arith, nat_tests, by, raw) in
    sym (twice_from (is_equal c.args.facts.now c.args.send.now) c.args.from k c.args.accepted.now (omega (arith, c.loop-place-test.true))
    (step_second (is_equal c.args.facts.now c.args.send.now) c.args.accepted.now k c.loop-place.place no_mark next c.loop-place.invariant.within equal (c.loop-place.invariant.any ∙ c.if-any.true)))

pub returns : goal.returns
returns c =
    sym (once_later (is_equal c.args.facts.now c.args.send.now) c.loop-place.place c.args.from c.args.accepted.now c.loop-place-test.false c.loop-place.invariant.once)
