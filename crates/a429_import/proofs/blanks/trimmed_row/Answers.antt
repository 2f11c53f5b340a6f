use Rattle.std.proofs.Common.{◌∙◌, sym}
use Rattle.csv.specs.Records.{fields_of}
use Rattle.a429_import.proofs.Trimmed.{fields_stay}
use Rattle.a429_import.proofs.blanks.trimmed_row.Goals as goal

pub returns-then-have_no_blank : goal.returns-then-have_no_blank
returns-then-have_no_blank c = sym (fields_stay (fields_of c.args.fields) (sym c.have_no_blank.ensures ∙ c.if-have_no_blank.true))
