use Rattle.std.proofs.Common.{ap, ◌++◌, ◌∷◌, [], ◌∙◌}
use Rattle.a429_text.specs.Aligned.{width_of}
use Rattle.a429_text.proofs.AlignedRows.{widths_more}
use Rattle.a429_text.proofs.aligned.widths.Goals as goal

pub loop-column-preserved : goal.loop-column-preserved
loop-column-preserved c =
    widths_more (λ column. width_of column c.args.rows.now) c.loop-column.widths c.push.new.self c.loop-column.column c.loop-column.invariant
    (c.push.ensures ∙ ap (λ w. c.loop-column.widths ++ w ∷ []) c.width.ensures)
