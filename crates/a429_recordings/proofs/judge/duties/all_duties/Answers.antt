use Rattle.std.proofs.Common.{◌∙◌, ap}
use Rattle.a429_arguments.specs.Texts.{texts_of}
use Rattle.a429_recordings.specs.JudgedPlans.{duties_of}
use Rattle.a429_recordings.proofs.NotedBoxes.{lists_more}
use Rattle.a429_recordings.proofs.judge.duties.all_duties.Goals as goal

pub loop-group-preserved : goal.loop-group-preserved
loop-group-preserved c =
    lists_more (duties_of c.args.proposal.now (texts_of c.args.tolerances.now)) c.loop-group.all.items c.in_ok-duties_of.field-0 c.push.new.self.items c.loop-group.group
    c.loop-group.invariant c.in_ok-push.ensures.items c.in_ok-duties_of.ensures
