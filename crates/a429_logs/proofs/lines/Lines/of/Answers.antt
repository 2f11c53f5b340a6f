use Rattle.std.proofs.Common.{◌∙◌}
use Rattle.a429_logs.proofs.JoinedPieces.{lines-of-none, lines-of-some}
use Rattle.a429_logs.proofs.lines.Lines.of.Goals as goal

pub returns-in-empty-clause-lines : goal.returns-in-empty-clause-lines
returns-in-empty-clause-lines c = c.of_text.ensures.lines ∙ lines-of-none c.args.pieces.now c.in-empty.len_below

pub returns-in-len1-up-clause-lines : goal.returns-in-len1-up-clause-lines
returns-in-len1-up-clause-lines c =
    c.of_text-in-len1-up.ensures.lines
    ∙ lines-of-some c.args.pieces.now c.first-item.result c.as_slice.result.now c.in-len1-up.len_at_least c.first-item.is c.as_slice.ensures.value
