use Rattle.std.proofs.Common.{refl}
use Rattle.a429_recordings.specs.SummaryRuns.{kept_row}
use Rattle.a429_recordings.proofs.SummedUp.{rows_more}
use Rattle.a429_recordings.proofs.simulate.summary_rows.add_outputs.Goals as goal

pub loop-output-preserved : goal.loop-output-preserved
loop-output-preserved c =
    let row = kept_row c.args.proposal.now c.args.summary.now c.args.group in
    rows_more row c.args.rows.now c.loop-output.rows c.add_output.new.rows c.loop-output.output (row c.loop-output.output) c.loop-output.invariant c.add_output.ensures refl
