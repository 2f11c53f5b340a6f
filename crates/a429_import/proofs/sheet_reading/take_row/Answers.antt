use Rattle.std.proofs.Common.{◌++◌, ◌∷◌, ◌∙◌, [], List, ap₂, subst, sym}
use Rattle.std.proofs.lemmas.Result.{on_ok_weaker}
use Rattle.a429_text.specs.declared.csv_line.CsvLine.{CsvLine}
use Rattle.a429_import.specs.ImportMaps.{given_texts}
use Rattle.a429_import.specs.SheetReading.{ReadsHeaded}
use Rattle.a429_import.proofs.ImportReading.{one_filled}
use Rattle.a429_import.proofs.SheetReading.{below_more}
use Rattle.a429_import.proofs.sheet_reading.take_row.Goals as goal

pub returns-in-Some : goal.returns-in-Some
returns-in-Some c =
    let options = c.args.options in
    let maps = given_texts c.args.maps.now in
    let old = c.args.read.now in
    let new = c.take_below.new.read in
    let one = one_filled c.args.line (sym c.has_text.ensures ∙ c.if-not-has_text.false) in
    on_ok_weaker c.take_below.result
    (λ more lines known.
    subst (λ (ls : List CsvLine). ReadsHeaded options maps old.heading new (lines ++ ls)) (sym one)
    (subst (λ o. ReadsHeaded options maps o new (lines ++ c.args.line ∷ [])) (sym c.in-Some.is)
    (below_more options maps c.in-Some.heading old.below new lines c.args.line (subst (λ o. ReadsHeaded options maps o old.below lines) c.in-Some.is known) more)))
    c.take_below.ensures

pub returns-in_ok-heading-in-None : goal.returns-in_ok-heading-in-None
returns-in_ok-heading-in-None c =
    let options = c.args.options in
    let maps = given_texts c.args.maps.now in
    let old = c.args.read.now in
    let heading = c.in_ok-heading-in-None in
    let one = one_filled c.args.line (sym c.has_text.ensures ∙ c.if-not-has_text.false) in
    λ lines known.
    let none = subst (λ o. ReadsHeaded options maps o old.below lines) c.in-None.is known in
    (c.args.line, [], ap₂ (λ (a b : List CsvLine). a ++ b) none.0 one, heading.ensures.named, heading.ensures.read options none.1)
