use Rattle.std.proofs.Common.{subst}
use Rattle.a429_import.specs.ImportMaps.{given_texts}
use Rattle.a429_import.specs.SheetReading.{ReadsHeaded}
use Rattle.a429_import.proofs.Imports.{import_of, none_imported}
use Rattle.a429_import.proofs.SheetReading.{sheet_import, sheet_lines}
use Rattle.a429_import.proofs.import.read_table.Goals as goal

pub table_below-requires : goal.table_below-requires
table_below-requires g c =
    let maps = given_texts c.args.maps.now in
    let read = c.in_ok-read_lines.ensures in
    let below = c.read_lines.new.read.below in
    sheet_lines c.args.options maps c.in-Some.heading below read.0 (subst (λ o. ReadsHeaded c.args.options maps o below read.0) c.in-Some.is read.2)

pub returns-in-Some : goal.returns-in-Some
returns-in-Some g c = λ fit.
    let maps = given_texts c.args.maps.now in
    let read = c.in_ok-read_lines.ensures in
    let below = c.read_lines.new.read.below in
    let known = subst (λ o. ReadsHeaded c.args.options maps o below read.0) c.in-Some.is read.2 in
    import_of maps c.args.options c.args.text.now read.0 c.table_below.result fit read.1
    (sheet_import c.args.options maps c.in-Some.heading below read.0 c.table_below.result known c.table_below.ensures)

pub returns-in-None : goal.returns-in-None
returns-in-None g c = λ fit.
    let maps = given_texts c.args.maps.now in
    let read = c.in_ok-read_lines.ensures in
    let known = subst (λ o. ReadsHeaded c.args.options maps o c.read_lines.new.read.below read.0) c.in-None.is read.2 in
    import_of maps c.args.options c.args.text.now read.0 _ fit read.1 (none_imported maps c.args.options read.0 c.csv_fault.result known.0 c.csv_fault.ensures)
