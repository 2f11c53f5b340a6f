use Rattle.std.proofs.Common.{◌∙◌, ap, drop, length, map, sym}
use Rattle.a429_documents.specs.KeptColumns.{said_by}
use Rattle.a429_documents.proofs.KeptSheets.{wider_is}
use Rattle.a429_documents.proofs.kept.render_wider.Goals as goal

pub returns : goal.returns
returns c =
    let texts = map said_by c.args.texts.now in
    let own = c.args.sheet.now.columns.now in
    let rows = c.args.sheet.now.rows in
    let all = map (λ name. name.now) c.in_ok-columns.columns.items in
    let more = c.further-more.ensures ∙ ap (λ xs. drop (length own) (map (λ name. name.now) xs)) c.deref.ensures.value in
    let same = wider_is c.args.form texts own all (map (λ name. name.now) c.further-more.result.now) rows c.in_ok-rows.rows c.args.place c.in_ok-columns.ensures more c.in_ok-rows.ensures in
    rw (sym same) (rw c.deref-2.ensures.value at c.render_rows.ensures)
