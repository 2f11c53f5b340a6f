use Rattle.std.proofs.Common.{◌∙◌, rules, tests}
use Rattle.std.proofs.lemmas.Iterator.{YieldsList-from_slice}
use Rattle.std.proofs.lemmas.Iterator.Search.{find_from_yields_List}
use Rattle.csv.specs.Records.{fields_of}
use Rattle.a429_import.specs.ImportRows.{import_columns, is_wrong, wrong_column}
use Rattle.a429_import.proofs.columns.wrong_column.Goals as goal

pub returns : goal.returns
unfolding wrong_column
returns c = c.copied.ensures ∙ find_from_yields_List (is_wrong (fields_of c.args.heading.now.fields)) _ _ c.find.result c.find.ensures.ran (YieldsList-from_slice import_columns cc) (λ x b q k. search (rules, tests))
