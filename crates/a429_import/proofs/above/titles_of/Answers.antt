use Rattle.std.proofs.Common.{◌∙◌, [], ◌≡◌, map}
use Rattle.csv.specs.Records.{fields_of}
use Rattle.a429_text.specs.declared.csv_line.CsvLine.{CsvLine}
use Rattle.a429_import.proofs.ImportAbove.{first_is, no_first}
use Rattle.a429_import.specs.ImportWords.{trimmed}
use Rattle.a429_import.proofs.ImportForms.{read_more}
use Rattle.a429_import.proofs.ImportReading.{row_is}
use Rattle.a429_import.proofs.above.titles_of.Goals as goal

pub returns-in_ok-line-in-Some : goal.returns-in_ok-line-in-Some
returns-in_ok-line-in-Some c =
    let line : CsvLine = c.in_ok-line-in-Some.line in
    let is = row_is (λ fields. fields_of line.fields ≡ map trimmed (fields_of fields)) c.in-Some.row c.in_ok-line-in-Some.ensures.fields in
    let before = c.rows_of-rows.ensures.before c.args.text.now c.count_before-count.result c.count_before-count.ensures in
    let s = rw (c.in-Some.is, is.1) at ((c.next-first.ensures.steps c.rows_of-rows.ensures.left before.plain).0 before.ready) in
    first_is c.args.form.separator c.args.text.now c.args.form.text.now c.next-first.new.self.rdr c.line_of.new.count line
    (read_more c.args.form.separator c.args.text.now c.args.form.text.now c.rows_of-rows.result.rdr c.next-first.new.self.rdr c.count_before-count.result c.line_of.new.count [] line (fields_of is.0) before s.0 s.1
    c.in_ok-line-in-Some.ensures.separator is.2 (record { number = c.in_ok-line-in-Some.ensures.number; counted = c.in_ok-line-in-Some.ensures.counted; row = c.in_ok-line-in-Some.ensures.row; between = c.in_ok-line-in-Some.ensures.between }))

pub returns-in-None : goal.returns-in-None
returns-in-None c =
    let before = c.rows_of-rows.ensures.before c.args.text.now c.count_before-count.result c.count_before-count.ensures in
    let end = rw c.in-None.is at ((c.next-first.ensures.steps c.rows_of-rows.ensures.left before.plain).0 before.ready) in
    c.new.ensures.fields ∙ no_first c.args.form.separator c.args.text.now c.args.form.text.now c.rows_of-rows.result.rdr c.next-first.new.self.rdr c.count_before-count.result before end
