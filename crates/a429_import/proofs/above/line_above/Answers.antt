use Rattle.std.proofs.Common.{◌≡◌, ◌∙◌, ap, length, sym, true, List, ℕ}
use Rattle.std.specs.Prelude.{◌==◌}
use Rattle.a429_import.specs.FaultLines.{first_row}
use Rattle.a429_import.specs.ImportMaps.{given_texts, names_by}
use Rattle.a429_import.specs.ImportQuotes.{text_before}
use Rattle.a429_import.specs.Imports.{separated}
use Rattle.a429_import.proofs.ImportAbove.{no_data_line}
use Rattle.a429_import.proofs.above.line_above.Goals as goal

pub returns-then-is_empty : goal.returns-then-is_empty
returns-then-is_empty c =
    let cfg = separated c.args.form.separator in
    let none : (length (text_before c.args.form.text.now c.args.text.now) == 0) ≡ true = sym (ap (λ (xs : List ℕ). length xs == 0) c.text_before-above.ensures) ∙ sym c.is_empty.ensures ∙ c.if-is_empty.true in
    no_data_line cfg (names_by (given_texts c.args.maps.now) (first_row cfg c.args.form.text.now)) (text_before c.args.form.text.now c.args.text.now) none
