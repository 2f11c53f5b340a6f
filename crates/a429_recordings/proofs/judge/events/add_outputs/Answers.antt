use Rattle.a429_arguments.specs.Texts.{texts_of}
use Rattle.a429_recordings.specs.JudgedPlans.{output_events}
use Rattle.a429_recordings.proofs.SummedUp.{groups_more}
use Rattle.a429_recordings.proofs.judge.events.add_outputs.Goals as goal

pub loop-output-preserved : goal.loop-output-preserved
loop-output-preserved c =
    let j = c.args.judging.now in
    groups_more (output_events j.proposal.now (texts_of j.tolerances.now) j.judge.now.noted c.args.group) c.args.rows.now c.loop-output.rows c.add_output.new.rows c.loop-output.output c.loop-output.invariant c.in_ok-add_output.ensures
