use Rattle.a429_judge.proofs.Kept.{judge_heard}
use Rattle.a429_judge.proofs.recordings.Judge.heard.Goals as goal

pub invariant_of-self : goal.invariant_of-self
invariant_of-self c =
    judge_heard c.self.inside.groups.items c.self.inside.accepted.items c.add_accepted.new.lists.items c.self.inside.first c.self.inside.in_order c.stays_in_order-self-inside.result
    (record { heard = c.self.inside.all_heard; last_heard = c.self.inside.last_heard; sent = c.self.inside.all_sent; last_sent = c.self.inside.last_sent })
    c.tell_heard.new.heard c.args.source c.args.mark c.tell_heard.ensures c.add_accepted.ensures.lists c.add_accepted.ensures.words c.stays_in_order-self-inside.ensures c.self.invariant
