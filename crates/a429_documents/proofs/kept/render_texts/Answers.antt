use Rattle.std.proofs.Common.{◌∙◌, map, refl, sym}
use Rattle.std.proofs.lemmas.Bool.{eqb-true}
use Rattle.a429_documents.specs.KeptColumns.{said_by}
use Rattle.a429_documents.proofs.KeptSheets.{none_kept, none_said}
use Rattle.a429_documents.proofs.kept.render_texts.Goals as goal

pub returns-then-is_empty : goal.returns-then-is_empty
returns-then-is_empty c =
    let said = map said_by c.args.texts.now in
    let none = none_said said_by c.args.texts.now said (eqb-true _ _ (sym c.is_empty.ensures ∙ c.if-is_empty.true)) refl in
    let own = map (λ name. name.now) c.args.sheet.now.columns.now in
    rw (none, none_kept c.args.form own c.args.place c.args.sheet.now.rows) c.render.ensures
