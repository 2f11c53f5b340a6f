use Rattle.std.proofs.Common.{◌∙◌, ℕ, ap}
use Rattle.a429_judge.specs.Judging.{is_in_reach, time_at}
use Rattle.a429_judge.proofs.Firsts.{first_decides, none_answers}
use Rattle.a429_judge.proofs.findings.is_answered.Goals as goal

pub returns-then-answer-sends : goal.returns-then-answer-sends
returns-then-answer-sends c =
    c.is_in_reach.ensures ∙ ap (λ (t : ℕ). is_in_reach c.args.facts.now t (time_at c.args.sends.now c.args.answer)) c.due_since-since.ensures
    ∙ first_decides c.args.facts.now c.args.span.now c.args.accepted.now c.args.sends.now c.args.word c.args.answer c.requires.times c.requires.first c.if-answer-sends.true

pub returns-else-answer-sends : goal.returns-else-answer-sends
returns-else-answer-sends c =
    none_answers c.args.facts.now c.args.span.now c.args.accepted.now c.args.sends.now c.args.word c.args.answer c.requires.first c.if-answer-sends.false
