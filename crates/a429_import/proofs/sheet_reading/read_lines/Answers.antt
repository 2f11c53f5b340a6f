use Rattle.std.proofs.Common.{List, ℕ, ap, ◌∙◌, sym, refl, ◌∷◌, ◌++◌, [], filter, subst, ◌≡◌, map}
use Rattle.std.proofs.lemmas.List.Elements.{filter-append}
use Rattle.csv.specs.Records.{fields_of}
use Rattle.a429_text.specs.declared.csv_line.CsvLine.{CsvLine}
use Rattle.a429_import.specs.SheetReading.{ReadsSheet}
use Rattle.a429_import.specs.ImportMaps.{given_texts}
use Rattle.a429_import.specs.Imports.{has_text}
use Rattle.a429_import.specs.ImportWords.{trimmed}
use Rattle.a429_import.proofs.ImportForms.{read_all, read_more}
use Rattle.a429_import.specs.LineCounts.{IsEnd, is_between}
use Rattle.a429_import.proofs.RowLines.{from_heading_end}
use Rattle.a429_import.proofs.ImportReading.{row_is}
use Rattle.a429_import.proofs.sheet_reading.read_lines.Goals as goal

pub count_before-count-requires : goal.count_before-count-requires
count_before-count-requires g c = subst (λ (xs : List ℕ). IsEnd c.args.text.now xs) (sym c.requires.text) (from_heading_end (given_texts c.args.maps.now) c.args.text.now)

pub line_of-requires-clause-between : goal.line_of-requires-clause-between
line_of-requires-clause-between g c = let read = c.loop-row.invariant.read in ap is_between read.state ∙ read.between

pub line_of-requires-clause-counted : goal.line_of-requires-clause-counted
line_of-requires-clause-counted g c = c.loop-row.invariant.read.counted

pub loop-row-init : goal.loop-row-init
loop-row-init g c =
    let start = c.into_iter-row-iterator.ensures.into_iter_gives ∙ refl in
    rw start (record { turns = c.rows_of-row-items.ensures.left; all = []; read = c.rows_of-row-items.ensures.before c.args.text.now c.count_before-count.result c.count_before-count.ensures; known = c.requires.read })

pub loop-row-preserved : goal.loop-row-preserved
loop-row-preserved g c =
    let inv = c.loop-row.invariant in
    let line : CsvLine = c.in_ok-line.line in
    let is = row_is (λ fields. fields_of line.fields ≡ map trimmed (fields_of fields)) c.in-Some.row c.in_ok-line.ensures.fields in
    let s = rw (c.in-Some.is, is.1) at ((c.next.ensures.steps inv.turns inv.read.plain).0 inv.read.ready) in
    record {
      turns = s.2;
      all = inv.all ++ line ∷ [];
      read = read_more c.args.form.separator c.args.text.now c.args.form.text.now c.loop-row.row-iterator.rdr c.next.new.self.rdr c.loop-row.count c.line_of.new.count inv.all line (fields_of is.0) inv.read s.0 s.1 c.in_ok-line.ensures.separator is.2
          (record { number = c.in_ok-line.ensures.number; counted = c.in_ok-line.ensures.counted; row = c.in_ok-line.ensures.row; between = c.in_ok-line.ensures.between });
      known = subst (ReadsSheet c.args.options (given_texts c.args.maps.now) c.take_row.new.read) (sym (filter-append (λ (l : CsvLine). has_text (fields_of l.fields)) inv.all (line ∷ []))) (c.in_ok-take_row.ensures (filter (λ (l : CsvLine). has_text (fields_of l.fields)) inv.all) inv.known);
    }

pub returns : goal.returns
returns g c =
    let inv = c.loop-row.invariant in
    let end = rw c.in-None.is at ((c.next.ensures.steps inv.turns inv.read.plain).0 inv.read.ready) in
    let lines : List CsvLine = filter (λ (l : CsvLine). has_text (fields_of l.fields)) inv.all in
    let are = read_all (given_texts c.args.maps.now) c.args.text.now c.args.form c.loop-row.row-iterator.rdr c.next.new.self.rdr c.loop-row.count inv.all lines c.requires.separator c.requires.text inv.read end refl in
    (lines, are, inv.known)
