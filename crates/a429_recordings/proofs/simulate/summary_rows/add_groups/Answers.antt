use Rattle.a429_recordings.specs.SummaryRuns.{kept_group}
use Rattle.a429_recordings.proofs.SummedUp.{groups_more}
use Rattle.a429_recordings.proofs.simulate.summary_rows.add_groups.Goals as goal

pub loop-group-preserved : goal.loop-group-preserved
loop-group-preserved c =
    groups_more (kept_group c.args.proposal.now c.args.summary.now) c.args.rows.now c.loop-group.rows c.add_outputs.new.rows c.loop-group.group c.loop-group.invariant c.add_outputs.ensures
