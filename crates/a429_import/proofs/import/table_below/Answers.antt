use Rattle.std.proofs.Common.{◌∙◌, ◌∷◌, false, subst, sym, true}
use Rattle.a429_text.specs.declared.csv_line.CsvLine.{CsvLine}
use Rattle.a429_import.specs.ImportReading.{AreRead, SayRows}
use Rattle.a429_import.specs.Imports.{IsImportFrom}
use Rattle.a429_import.proofs.Imports.{fault_import}
use Rattle.a429_import.proofs.SheetReading.{table_stated}
use Rattle.a429_import.proofs.import.table_below.Goals as goal

pub returns-in-Some : goal.returns-in-Some
returns-in-Some c = λ below known.
    let read = c.args.read.now in
    let fault = subst (λ f. AreRead f read c.args.heading.now.line below) (sym c.take.ensures.value ∙ c.in-Some.is) known in
    fault_import c.args.makes_names (c.args.heading.now.line ∷ below) c.in-Some.fault fault

pub table_with_names-requires : goal.table_with_names-requires
table_with_names-requires c =
    let read = c.args.read.now in
    let there : SayRows c.args.heading.now.line c.requires.0 read = subst (λ f. AreRead f read c.args.heading.now.line c.requires.0) (sym c.take.ensures.value ∙ c.in-None.is) c.requires.1 in
    record { known = there.are.knows }

pub table_of_rows-requires : goal.table_of_rows-requires
table_of_rows-requires c =
    let read = c.args.read.now in
    let there : SayRows c.args.heading.now.line c.requires.0 read = subst (λ f. AreRead f read c.args.heading.now.line c.requires.0) (sym c.take.ensures.value ∙ c.in-None.is) c.requires.1 in
    record { known = there.are.knows; comments = tt }

pub returns-then-makes_names : goal.returns-then-makes_names
returns-then-makes_names c = λ below known.
    let read = c.args.read.now in
    let heading : CsvLine = c.args.heading.now.line in
    let there : SayRows heading below read = subst (λ f. AreRead f read heading below) (sym c.take.ensures.value ∙ c.in-None.is) known in
    subst (λ b. IsImportFrom b (heading ∷ below) c.table_with_names.result) (sym c.if-makes_names.true)
    (table_stated true heading read below c.table_with_names.result c.len-notes.result there c.len-notes.ensures c.table_with_names.ensures.notes c.table_with_names.ensures.table)

pub returns : goal.returns
returns c = λ below known.
    let read = c.args.read.now in
    let heading : CsvLine = c.args.heading.now.line in
    let there : SayRows heading below read = subst (λ f. AreRead f read heading below) (sym c.take.ensures.value ∙ c.in-None.is) known in
    subst (λ b. IsImportFrom b (heading ∷ below) c.table_of_rows.result) (sym c.if-makes_names.false)
    (table_stated false heading read below c.table_of_rows.result c.len-notes.result there c.len-notes.ensures c.table_of_rows.ensures.notes c.table_of_rows.ensures.table)
