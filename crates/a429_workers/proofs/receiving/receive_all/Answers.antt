use Rattle.std.proofs.Common.{◌∙◌, Ok, ap, arith}
use Rattle.a429_filter.specs.Sources.{word_given}
use Rattle.a429_workers.specs.Gates.{listening, point_after_word, point_before_word, points_of}
use Rattle.a429_workers.proofs.Gating.{gate_shut, line_ended, line_failed, one_too_many, passed_more}
use Rattle.a429_workers.proofs.Hearing.{gives_none, gives_word, one_more, same_receiver, small_so_far}
use Rattle.a429_workers.proofs.receiving.receive_all.Goals as goal

pub receive-requires : goal.receive-requires
receive-requires g c = record {
  room = (small_so_far _ _ _ _ _ _ _ c.loop-place.invariant.so_far, c.loop-place-test.true);
}

pub returns-in-Err-receive-clause-taken : goal.returns-in-Err-receive-clause-taken
returns-in-Err-receive-clause-taken g c =
    let answer = c.in-Ok-Some.is ∙ ap (λ f. Ok f) c.in-Ok-Some.field-0-is in
    gate_shut g.L.LineSource (points_of g.G.Gate c.args.gate.now) c.args.number (listening c.args.line.now c.args.receiver.now) (listening c.loop-place.line c.loop-place.receiver) c.next.new.self _ _ c.in-Ok-Some.raw c.loop-place.invariant.so_far
    (λ words came. gives_word g.L.LineSource.given g.L.LineSource.left c.args.line.now c.loop-place.line c.next.new.self words c.next.result c.in-Ok-Some.raw answer came c.next.ensures.given c.next.ensures.left)
    c.loop-place.invariant.passed c.receive.new.receiver c.loop-place-test.true c.in-Err-receive.ensures.shut

pub loop-place-preserved : goal.loop-place-preserved
loop-place-preserved g c =
    let was = c.loop-place.invariant in
    let answer = c.in-Ok-Some.is ∙ ap (λ f. Ok f) c.in-Ok-Some.field-0-is in
    record {
      so_far = one_more _ (points_of g.G.Gate c.args.gate.now) c.args.number _ _ _ _ _ c.in-Ok-Some.raw was.so_far c.in_default.ensures.ok _ _ (λ words came. gives_word g.L.LineSource.given g.L.LineSource.left c.args.line.now c.loop-place.line c.next.new.self words c.next.result c.in-Ok-Some.raw answer came c.next.ensures.given c.next.ensures.left) c.in_default.ensures.totals c.in_default.ensures.order;
      failed = c.in-Ok-Some.ensures.failed ∙ was.failed;
      same = same_receiver c.args.receiver.now c.loop-place.receiver c.receive.new.receiver was.same c.receive.ensures.same;
      passed = passed_more (g.G.Gate.passes c.args.gate.now) (point_before_word c.args.number) (point_after_word c.args.number) c.loop-place.place was.passed c.in_default.ensures.passed;
    }

pub returns-in-Ok-Some-next-clause-taken : goal.returns-in-Ok-Some-next-clause-taken
returns-in-Ok-Some-next-clause-taken g c =
    let answer = c.in-Ok-Some-next.is ∙ ap (λ f. Ok f) c.in-Ok-Some-next.field-0-is in
    one_too_many g.L.LineSource (points_of g.G.Gate c.args.gate.now) c.args.number (listening c.args.line.now c.args.receiver.now) (listening c.loop-place.line c.loop-place.receiver) c.next-2.new.self _ c.loop-place.place c.in-Ok-Some-next.raw c.loop-place.invariant.so_far
    (λ words came. gives_word g.L.LineSource.given g.L.LineSource.left c.args.line.now c.loop-place.line c.next-2.new.self words c.next-2.result c.in-Ok-Some-next.raw answer came c.next-2.ensures.given c.next-2.ensures.left)
    c.loop-place.invariant.passed (omega arith)

pub returns-in-Ok-None-clause-taken : goal.returns-in-Ok-None-clause-taken
returns-in-Ok-None-clause-taken g c =
    let S = c.loop-place.invariant.so_far in
    line_ended g.L.LineSource (points_of g.G.Gate c.args.gate.now) c.args.number (listening c.args.line.now c.args.receiver.now) (listening c.loop-place.line c.loop-place.receiver) c.next.new.self _ c.loop-place.place S
    (gives_none g.L.LineSource.given g.L.LineSource.left c.args.line.now c.loop-place.line c.next.new.self S.came c.next.result (ap word_given (c.in-Ok-None.is ∙ ap (λ f. Ok f) c.in-Ok-None.field-0-is)) S.given c.next.ensures.given c.next.ensures.left)
    c.loop-place.invariant.passed (omega (arith, c.loop-place-test.true))

pub returns-in-Err-clause-taken : goal.returns-in-Err-clause-taken
returns-in-Err-clause-taken g c =
    let S = c.loop-place.invariant.so_far in
    line_failed g.L.LineSource (points_of g.G.Gate c.args.gate.now) c.args.number (listening c.args.line.now c.args.receiver.now) (listening c.loop-place.line c.loop-place.receiver) c.next.new.self _ c.loop-place.place S
    (gives_none g.L.LineSource.given g.L.LineSource.left c.args.line.now c.loop-place.line c.next.new.self S.came c.next.result (ap word_given (c.in-Err.is)) S.given c.next.ensures.given c.next.ensures.left)
    c.loop-place.invariant.passed (omega (arith, c.loop-place-test.true))

pub returns-in-Ok-None-next-clause-taken : goal.returns-in-Ok-None-next-clause-taken
returns-in-Ok-None-next-clause-taken g c =
    let S = c.loop-place.invariant.so_far in
    line_ended g.L.LineSource (points_of g.G.Gate c.args.gate.now) c.args.number (listening c.args.line.now c.args.receiver.now) (listening c.loop-place.line c.loop-place.receiver) c.next-2.new.self _ c.loop-place.place S
    (gives_none g.L.LineSource.given g.L.LineSource.left c.args.line.now c.loop-place.line c.next-2.new.self S.came c.next-2.result (ap word_given (c.in-Ok-None-next.is ∙ ap (λ f. Ok f) c.in-Ok-None-next.field-0-is)) S.given c.next-2.ensures.given c.next-2.ensures.left)
    c.loop-place.invariant.passed (omega arith)

pub returns-in-Err-next-clause-taken : goal.returns-in-Err-next-clause-taken
returns-in-Err-next-clause-taken g c =
    let S = c.loop-place.invariant.so_far in
    line_failed g.L.LineSource (points_of g.G.Gate c.args.gate.now) c.args.number (listening c.args.line.now c.args.receiver.now) (listening c.loop-place.line c.loop-place.receiver) c.next-2.new.self _ c.loop-place.place S
    (gives_none g.L.LineSource.given g.L.LineSource.left c.args.line.now c.loop-place.line c.next-2.new.self S.came c.next-2.result (ap word_given (c.in-Err-next.is)) S.given c.next-2.ensures.given c.next-2.ensures.left)
    c.loop-place.invariant.passed (omega arith)
