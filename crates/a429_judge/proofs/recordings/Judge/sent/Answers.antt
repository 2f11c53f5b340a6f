use Rattle.a429_judge.proofs.Kept.{judge_sent}
use Rattle.a429_judge.proofs.recordings.Judge.sent.Goals as goal

pub invariant_of-self : goal.invariant_of-self
invariant_of-self c =
    judge_sent c.self.inside.groups.items c.add_sent.new.groups.items c.self.inside.accepted.items c.self.inside.first c.or-self-inside.result c.self.inside.in_order c.stays_in_order-self-inside.result
    (record { heard = c.self.inside.all_heard; last_heard = c.self.inside.last_heard; sent = c.self.inside.all_sent; last_sent = c.self.inside.last_sent })
    c.push.new.self c.args.word c.push.ensures c.add_sent.ensures.outputs c.add_sent.ensures.words c.or-self-inside.ensures c.stays_in_order-self-inside.ensures c.self.invariant
