use Rattle.std.proofs.Common.{List, rules, ap, ◌∙◌}
use Rattle.a429_judge.specs.declared.duties.Duty.{Duty}
use Rattle.a429_judge.specs.Recordings.{duty_at, group_at}
use Rattle.a429_judge.proofs.Kept.{accepted_rise, judgement_same, sends_rise}
use Rattle.a429_judge.proofs.recordings.Judge.judgement.Goals as goal

pub judge_words-requires-clause-accepted : goal.judge_words-requires-clause-accepted
judge_words-requires-clause-accepted c =
    accepted_rise (duty_at (group_at c.args.self.now.duties c.args.group) c.args.output) c.args.self.now.noted c.in_ok-accepted.accepted.now c.in_ok-accepted.ensures (c.is_in_order.ensures.kept (search rules))

pub judge_words-requires-clause-sends : goal.judge_words-requires-clause-sends
judge_words-requires-clause-sends c =
    sends_rise (duty_at (group_at c.args.self.now.duties c.args.group) c.args.output) c.args.self.now.noted c.in_ok-sends.sends.now c.in_ok-sends.ensures (c.is_in_order.ensures.kept (search rules))

pub returns-clause-judgement : goal.returns-clause-judgement
returns-clause-judgement c =
    c.in_ok-judgement.ensures
    ∙ judgement_same (group_at c.args.self.now.duties c.args.group) c.duties-duties.result.now (duty_at (group_at c.args.self.now.duties c.args.group) c.args.output) _ c.args.self.now.noted c.span-span.result
    c.in_ok-accepted.accepted.now c.in_ok-sends.sends.now c.duties-duties.ensures (ap (λ (ds : List Duty). duty_at ds c.args.output) c.duties-duties.ensures) c.span-span.ensures c.in_ok-accepted.ensures c.in_ok-sends.ensures
