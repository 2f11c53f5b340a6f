use Rattle.std.proofs.Common.{◌∙◌, string_bytes, sym}
use Rattle.a429_import.proofs.SkippedTexts.{comment_added, comments_ended}
use Rattle.a429_import.proofs.comments.put_lines.Goals as goal

pub loop-line-preserved : goal.loop-line-preserved
loop-line-preserved c =
    comment_added c.args.name.now (string_bytes c.loop-line.shown) (string_bytes c.put_line.new.shown) c.loop-line.rest.now c.in-Some.line.now c.in-Some.next.now
    (sym c.in-Some.ensures.cut) c.in_ok-put_line.ensures ∙ c.loop-line.invariant

pub returns : goal.returns
returns c = comments_ended c.args.name.now (string_bytes c.loop-line.shown) c.loop-line.rest.now (sym c.in_default.ensures.cut) ∙ c.loop-line.invariant
