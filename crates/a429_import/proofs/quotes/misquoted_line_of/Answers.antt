use Rattle.std.proofs.Common.{◌∙◌, ap, false, refl, sym, true}
use Rattle.std.specs.Option.{option_or}
use Rattle.a429_import.specs.FaultLines.{wrong_line}
use Rattle.a429_import.specs.Imports.{separated}
use Rattle.a429_import.proofs.quotes.misquoted_line_of.Goals as goal

pub wrong_line-requires : goal.wrong_line-requires
wrong_line-requires c = (0, refl)

pub returns-in-Some : goal.returns-in-Some
returns-in-Some c =
    let above = sym c.in-Some.is ∙ c.wrong_line.ensures ∙ ap (λ xs. wrong_line false (separated c.args.form.separator) xs xs) c.text_before-before.ensures in
    ap (λ o. option_or o (wrong_line true (separated c.args.form.separator) c.args.text.now c.args.form.text.now)) above

pub returns-in-None : goal.returns-in-None
returns-in-None c =
    let above = sym c.in-None.is ∙ c.wrong_line.ensures ∙ ap (λ xs. wrong_line false (separated c.args.form.separator) xs xs) c.text_before-before.ensures in
    c.wrong_line-in-None.ensures ∙ ap (λ o. option_or o (wrong_line true (separated c.args.form.separator) c.args.text.now c.args.form.text.now)) above
