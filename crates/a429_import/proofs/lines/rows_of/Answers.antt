use Rattle.std.proofs.Common.{◌∙◌, [], ap, inr, refl, sym}
use Rattle.csv.specs.Reading.{Reached, strip_bom}
use Rattle.csv.specs.declared.parser.Config.{Config}
use Rattle.a429_import.specs.LineCounts.{is_between}
use Rattle.a429_import.specs.RowLines.{lines_from}
use Rattle.a429_import.proofs.lines.rows_of.Goals as goal

pub returns-clause-before : goal.returns-clause-before
unfolding Reached lines_from
returns-clause-before c = λ file count before.
    let from = c.from_reader-reader.ensures in
    rw c.into_byte_records.ensures.rdr (record {
      plain = rw (c.delimiter.ensures, c.flexible.ensures, c.has_headers.ensures) at from.trim ∙ c.new.ensures.trim;
      ready = inr (inr (rw (c.delimiter.ensures, c.flexible.ensures, c.has_headers.ensures) at from.has_headers, from.headers));
      config = rw (c.delimiter.ensures, c.flexible.ensures, c.has_headers.ensures) at from.config ∙ ap (λ (g : Config). record g { delimiter = c.args.form.separator }) c.new.ensures.config;
      rest = strip_bom c.args.form.text.now;
      source = from.source;
      rows = [];
      reached = (sym from.state, refl);
      fields = refl;
      separators = tt;
      counted = before.counted;
      state = before.start ∙ sym from.state;
      between = ap is_between from.state;
      at = before.rest;
      numbers = refl;
    })
