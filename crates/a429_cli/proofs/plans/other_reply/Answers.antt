use Rattle.a429_cli.proofs.PlanReplies.{unlisted}
use Rattle.a429_cli.proofs.plans.other_reply.Goals as goal

pub unreachable-requires : goal.unreachable-requires
unreachable-requires c =
    let n = c.in_default in
    unlisted c.args.asked.now.verb c.requires.plan c.requires.other n.not-Plan n.not-Icd n.not-Margin n.not-Load n.not-Slots n.not-Draw
