use Rattle.a429_table.specs.Repeats.{output_words}
use Rattle.a429_table.proofs.RowFlags.{all_flagged, none_flagged, one_flagged}
use Rattle.a429_table.proofs.repeats.output_repeats.Goals as goal

pub loop-row-init : goal.loop-row-init
loop-row-init c = none_flagged (output_words c.args.sources.now) c.args.outputs.now 256 _ _ c.in_ok-rows.ensures.places c.in_ok-rows.ensures.rows c.in_ok-rows.ensures.taken

pub loop-row-preserved : goal.loop-row-preserved
loop-row-preserved c =
    one_flagged (output_words c.args.sources.now) c.args.outputs.now 256 c.loop-row.row _ _ _ _ _ _ c.loop-row-test.true c.output_words.ensures.words c.note.ensures.repeats c.note.ensures.taken c.loop-row.invariant

pub returns : goal.returns
returns c = all_flagged (output_words c.args.sources.now) c.args.outputs.now 256 c.loop-row.row _ _ c.loop-row-test.false c.loop-row.invariant
