use Rattle.a429_survey.specs.Kept.{pair_in}
use Rattle.a429_survey.proofs.RowsMore.{range_rows}
use Rattle.a429_survey.proofs.rows.add_label.Goals as goal

pub loop-sdi-preserved : goal.loop-sdi-preserved
loop-sdi-preserved c =
    range_rows (pair_in c.args.kind c.args.rate c.args.line.now c.args.label) c.loop-sdi.sdi c.args.rows.now c.loop-sdi.rows c.add_pair.new.rows c.loop-sdi.invariant c.in_ok-add_pair.ensures
