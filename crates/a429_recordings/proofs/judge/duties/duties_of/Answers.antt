use Rattle.std.proofs.Common.{[]}
use Rattle.a429_arguments.specs.Texts.{texts_of}
use Rattle.a429_recordings.specs.JudgedPlans.{duty_of}
use Rattle.a429_recordings.proofs.SummedUp.{rows_more}
use Rattle.a429_recordings.proofs.judge.duties.duties_of.Goals as goal

pub loop-output-preserved : goal.loop-output-preserved
loop-output-preserved c =
    rows_more (duty_of c.args.proposal.now (texts_of c.args.tolerances.now) c.args.group) [] c.loop-output.duties c.push.new.self c.loop-output.output c.duty_of.result c.loop-output.invariant c.push.ensures c.duty_of.ensures
