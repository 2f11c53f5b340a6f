use Rattle.a429_survey.specs.Kept.{missing_in}
use Rattle.a429_survey.proofs.RowsMore.{added_rows}
use Rattle.a429_survey.proofs.missing.add_missing.Goals as goal

pub loop-each-preserved : goal.loop-each-preserved
loop-each-preserved c =
    added_rows (missing_in c.args.lines.now) c.args.expected.now c.loop-each.each-index c.each-item.result c.args.rows.now c.loop-each.rows c.add_if_missing.new.rows c.loop-each-test.true c.each-item.is c.loop-each.invariant c.add_if_missing.ensures
