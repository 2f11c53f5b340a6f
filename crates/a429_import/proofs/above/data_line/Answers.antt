use Rattle.std.proofs.Common.{ap, ◌∷◌, ◌++◌, ◌∙◌, [], Bool, None, Some, cond, refl, ◌≡◌, map}
use Rattle.std.specs.Option.{option_or}
use Rattle.csv.specs.Records.{fields_of}
use Rattle.a429_text.specs.declared.csv_line.CsvLine.{CsvLine}
use Rattle.a429_import.specs.FaultLines.{is_data}
use Rattle.a429_import.proofs.FaultLines.{line_more, no_line, some_if}
use Rattle.a429_import.proofs.ImportAbove.{line_read}
use Rattle.a429_import.specs.ImportWords.{trimmed}
use Rattle.a429_import.proofs.ImportForms.{read_more}
use Rattle.a429_import.specs.LineCounts.{is_between}
use Rattle.a429_import.proofs.ImportReading.{row_is}
use Rattle.a429_import.proofs.above.data_line.Goals as goal

pub line_of-requires-clause-between : goal.line_of-requires-clause-between
line_of-requires-clause-between c = let read = c.loop-row.invariant.read in ap is_between read.state ∙ read.between

pub line_of-requires-clause-counted : goal.line_of-requires-clause-counted
line_of-requires-clause-counted c = c.loop-row.invariant.read.counted

pub loop-row-init : goal.loop-row-init
loop-row-init c =
    let start = c.into_iter-row-iterator.ensures.into_iter_gives ∙ refl in
    rw start (record { turns = c.rows_of-row-items.ensures.left; all = []; read = c.rows_of-row-items.ensures.before c.args.form.text.now c.count_before-count.result c.count_before-count.ensures; line = no_line (is_data (fields_of c.args.heading.now.line.fields)) })

pub loop-row-preserved : goal.loop-row-preserved
loop-row-preserved c =
    let inv = c.loop-row.invariant in
    let line : CsvLine = c.in_ok-line.line in
    let is = row_is (λ fields. fields_of line.fields ≡ map trimmed (fields_of fields)) c.in-Some.row c.in_ok-line.ensures.fields in
    let s = rw (c.in-Some.is, is.1) at ((c.next.ensures.steps inv.turns inv.read.plain).0 inv.read.ready) in
    record {
      turns = s.2;
      all = inv.all ++ line ∷ [];
      read = read_more c.args.form.separator c.args.form.text.now c.args.form.text.now c.loop-row.row-iterator.rdr c.next.new.self.rdr c.loop-row.count c.line_of.new.count inv.all line (fields_of is.0) inv.read s.0 s.1 c.in_ok-line.ensures.separator is.2
          (record { number = c.in_ok-line.ensures.number; counted = c.in_ok-line.ensures.counted; row = c.in_ok-line.ensures.row; between = c.in_ok-line.ensures.between });
      line = line_more (is_data (fields_of c.args.heading.now.line.fields)) inv.all line c.loop-row.found c.or-found.result inv.line (c.or-found.ensures ∙ ap (λ o. option_or c.loop-row.found o) (c.then_some.ensures ∙ some_if c.is_data.result line.number ∙ ap (λ (b : Bool). cond b (Some line.number) None) c.is_data.ensures));
    }

pub returns : goal.returns
returns c =
    let inv = c.loop-row.invariant in
    let end = rw c.in-None.is at ((c.next.ensures.steps inv.turns inv.read.plain).0 inv.read.ready) in
    inv.line ∙ line_read c.args.form.separator (fields_of c.args.heading.now.line.fields) c.args.form.text.now c.loop-row.row-iterator.rdr c.next.new.self.rdr c.loop-row.count inv.all inv.read end
