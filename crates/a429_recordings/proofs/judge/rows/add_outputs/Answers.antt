use Rattle.std.proofs.Common.{◌∙◌, ap, refl}
use Rattle.std.specs.Prelude.{◌||◌, Bool}
use Rattle.a429_arguments.specs.Texts.{texts_of}
use Rattle.a429_recordings.specs.JudgedPlans.{is_bad_at, judged_row}
use Rattle.a429_recordings.proofs.JudgedRows.{found_more}
use Rattle.a429_recordings.proofs.SummedUp.{rows_more}
use Rattle.a429_recordings.proofs.judge.rows.add_outputs.Goals as goal

pub loop-output-preserved : goal.loop-output-preserved
loop-output-preserved c =
    let j = c.args.judging.now in
    let row = judged_row j.proposal.now (texts_of j.tolerances.now) j.judge.now.noted c.args.group in
    let bad = is_bad_at j.proposal.now (texts_of j.tolerances.now) j.judge.now.noted c.args.group in
    record {
      rows = rows_more row c.args.rows.now c.loop-output.rows c.add_output.new.rows c.loop-output.output (row c.loop-output.output) c.loop-output.invariant.rows c.in_ok-bad.ensures.row refl;
      found = found_more bad c.loop-output.output c.loop-output.found c.either-found.result c.loop-output.invariant.found (c.either-found.ensures ∙ ap (λ (b : Bool). c.loop-output.found || b) c.in_ok-bad.ensures.bad);
    }
