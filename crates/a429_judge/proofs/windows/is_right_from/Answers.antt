use Rattle.std.proofs.Common.{◌≡◌, ◌+◌, true, ◌-◌, sym, ◌∙◌, arith, get_or}
use Rattle.a429_judge.specs.Judging.{is_by, is_past, no_mark}
use Rattle.a429_judge.proofs.Scanning.{right_here, none_from, passed_at, past_at, right_from, stopped_from, wrong_later}
use Rattle.a429_judge.proofs.windows.is_right_from.Goals as goal

pub loop-place-init : goal.loop-place-init
loop-place-init c =
    let none = none_from c.args.facts.now c.args.send.now c.args.accepted.now c.count_by-place.result c.count_by-place.ensures.point.1 in record {
      within = c.count_by-place.ensures.within;
      right = none.0;
      past = none.1;
      by = λ k d lt. c.count_by-place.ensures.point.0 k d (omega arith) lt;
    }

pub returns-then-mark-send : goal.returns-then-mark-send
returns-then-mark-send c =
    let k = c.loop-place.place - 1 in
    let next : k + 1 ≡ c.loop-place.place = omega (arith, c.loop-place-test.true) in
    let by : is_by c.args.facts.now c.args.send.now.time (get_or c.args.accepted.now k no_mark) ≡ true = c.loop-place.invariant.by k no_mark (omega arith) in
    sym (right_from c.args.facts.now c.args.send.now c.args.from k c.args.accepted.now (omega (arith, c.loop-place-test.true))
    (right_here c.args.facts.now c.args.send.now no_mark c.args.accepted.now k c.loop-place.place next c.loop-place.invariant.within c.if-mark-send.true by c.loop-place.invariant.past))

pub returns-then-is_past : goal.returns-then-is_past
returns-then-is_past c =
    let k = c.loop-place.place - 1 in
    let next : k + 1 ≡ c.loop-place.place = omega (arith, c.loop-place-test.true) in
    let past : is_past c.args.facts.now c.args.send.now.time (get_or c.args.accepted.now k no_mark) ≡ true = sym c.is_past.ensures ∙ c.if-is_past.true in
    sym (stopped_from c.args.facts.now c.args.send.now c.args.from k c.args.accepted.now (omega (arith, c.loop-place-test.true))
    (past_at c.args.facts.now c.args.send.now no_mark c.args.accepted.now k c.loop-place.place true next c.loop-place.invariant.within past c.loop-place.invariant.past)
    (passed_at c.args.facts.now c.args.send.now no_mark c.args.accepted.now k c.loop-place.place next c.loop-place.invariant.within c.if-mark-send.false c.loop-place.invariant.right))

pub returns : goal.returns
returns c =
    sym (wrong_later c.args.facts.now c.args.send.now c.loop-place.place c.args.from c.args.accepted.now c.loop-place-test.false c.loop-place.invariant.right)
