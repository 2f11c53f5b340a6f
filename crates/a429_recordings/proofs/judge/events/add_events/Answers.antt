use Rattle.a429_arguments.specs.Texts.{texts_of}
use Rattle.a429_recordings.specs.JudgedPlans.{group_events}
use Rattle.a429_recordings.proofs.SummedUp.{groups_more}
use Rattle.a429_recordings.proofs.judge.events.add_events.Goals as goal

pub loop-group-preserved : goal.loop-group-preserved
loop-group-preserved c =
    let j = c.args.judging.now in
    groups_more (group_events j.proposal.now (texts_of j.tolerances.now) j.judge.now.noted) c.args.rows.now c.loop-group.rows c.add_group.new.rows c.loop-group.group c.loop-group.invariant c.in_ok-add_group.ensures
