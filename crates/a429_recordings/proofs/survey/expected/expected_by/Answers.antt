use Rattle.std.proofs.Common.{map}
use Rattle.a429_recordings.specs.Comparing.{heard_by, sent_in}
use Rattle.a429_recordings.proofs.SummedUp.{groups_more}
use Rattle.a429_recordings.proofs.survey.expected.expected_by.Goals as goal

pub loop-group-preserved : goal.loop-group-preserved
loop-group-preserved c =
    let t = c.args.equipment.now in
    groups_more (sent_in t) (map (heard_by t) t.sources) c.loop-group.expected c.add_sent.new.expected c.loop-group.group c.loop-group.invariant c.add_sent.ensures
