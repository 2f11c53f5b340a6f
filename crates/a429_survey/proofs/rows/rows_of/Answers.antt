use Rattle.a429_survey.specs.Kept.{rows_in}
use Rattle.a429_survey.proofs.RowsMore.{line_rows}
use Rattle.a429_survey.proofs.rows.rows_of.Goals as goal

pub loop-line-preserved : goal.loop-line-preserved
loop-line-preserved c =
    line_rows (rows_in c.args.kind c.args.rate) c.args.lines.now c.loop-line.line-index c.line-item.result c.loop-line.rows c.add_line.new.rows c.loop-line-test.true c.line-item.is c.loop-line.invariant c.in_ok-add_line.ensures
