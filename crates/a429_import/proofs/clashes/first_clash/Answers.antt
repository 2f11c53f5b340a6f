use Rattle.std.proofs.Common.{◌≡◌, ◌∙◌, None, Some, ap, rules, sym}
use Rattle.a429_import.specs.ImportClashes.{earlier_clash}
use Rattle.a429_import.specs.ImportRows.{row_view}
use Rattle.a429_import.proofs.ImportClashes.{first_of_three}
use Rattle.a429_import.proofs.clashes.first_clash.Goals as goal

pub returns : goal.returns
returns c = λ agree.
    first_of_three c.args.known.now.rows.items (row_view c.args.row.now) _ _ _ (Some c.in_ok-first.first) (c.clash_about-of_source.ensures agree) (c.clash_about-of_receiver.ensures agree) (c.clash_about-of_group.ensures agree)
    (sym c.in_ok-first.was ∙ c.earlier_clash-2.ensures ∙ ap (earlier_clash c.clash_about-of_source.result) c.earlier_clash.ensures)

pub returns-in_err-first : goal.returns-in_err-first
returns-in_err-first c = λ agree.
    let none : c.from_residual.result ≡ None = search rules in
    none ∙
    first_of_three c.args.known.now.rows.items (row_view c.args.row.now) _ _ _ None (c.clash_about-of_source.ensures agree) (c.clash_about-of_receiver.ensures agree) (c.clash_about-of_group.ensures agree)
    (sym c.in_err-first.was ∙ c.earlier_clash-2.ensures ∙ ap (earlier_clash c.clash_about-of_source.result) c.earlier_clash.ensures)
