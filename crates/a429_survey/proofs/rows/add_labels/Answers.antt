use Rattle.a429_survey.specs.Kept.{label_in}
use Rattle.a429_survey.proofs.RowsMore.{range_rows}
use Rattle.a429_survey.proofs.rows.add_labels.Goals as goal

pub loop-label-preserved : goal.loop-label-preserved
loop-label-preserved c =
    range_rows (label_in c.args.kind c.args.rate c.args.line.now) c.loop-label.label c.args.rows.now c.loop-label.rows c.add_label.new.rows c.loop-label.invariant c.in_ok-add_label.ensures
