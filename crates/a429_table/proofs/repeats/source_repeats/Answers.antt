use Rattle.std.proofs.Common.{◌∙◌, ap}
use Rattle.a429_table.specs.Repeats.{source_words}
use Rattle.a429_table.proofs.RowFlags.{all_flagged, none_flagged, one_flagged}
use Rattle.a429_table.proofs.repeats.source_repeats.Goals as goal

pub loop-row-init : goal.loop-row-init
loop-row-init c = none_flagged source_words c.args.sources.now 4096 _ _ c.in_ok-rows.ensures.places c.in_ok-rows.ensures.rows c.in_ok-rows.ensures.taken

pub loop-row-preserved : goal.loop-row-preserved
loop-row-preserved c =
    one_flagged source_words c.args.sources.now 4096 c.loop-row.row _ _ _ _ _ _ c.loop-row-test.true (c.source_words.ensures.words ∙ ap source_words c.index-sources-row.is) c.note.ensures.repeats c.note.ensures.taken c.loop-row.invariant

pub returns : goal.returns
returns c = all_flagged source_words c.args.sources.now 4096 c.loop-row.row _ _ c.loop-row-test.false c.loop-row.invariant
