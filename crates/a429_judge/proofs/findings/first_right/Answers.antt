use Rattle.std.proofs.Common.{drop, sym, ◌∙◌}
use Rattle.a429_judge.specs.Judging.{is_right, no_mark}
use Rattle.a429_judge.proofs.Firsts.{first_here, first_more, first_none}
use Rattle.a429_judge.proofs.findings.first_right.Goals as goal

pub returns-then-is_right_from : goal.returns-then-is_right_from
returns-then-is_right_from c =
    first_here (λ s. is_right c.args.facts.now s (drop c.args.word c.args.accepted.now)) c.args.sends.now c.loop-place.place no_mark c.loop-place.invariant
    (sym c.is_right_from.ensures ∙ c.if-is_right_from.true)

pub loop-place-preserved : goal.loop-place-preserved
loop-place-preserved c =
    first_more (λ s. is_right c.args.facts.now s (drop c.args.word c.args.accepted.now)) c.args.sends.now c.loop-place.place no_mark c.loop-place.invariant
    c.loop-place-test.true (sym c.is_right_from.ensures ∙ c.if-is_right_from.false)

pub returns : goal.returns
returns c =
    first_none (λ s. is_right c.args.facts.now s (drop c.args.word c.args.accepted.now)) c.args.sends.now c.loop-place.place c.loop-place.invariant c.loop-place-test.false
