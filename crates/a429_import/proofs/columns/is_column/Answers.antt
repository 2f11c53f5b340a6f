use Rattle.std.proofs.Common.{rules, tests}
use Rattle.std.proofs.lemmas.Iterator.{YieldsList-from_slice}
use Rattle.std.proofs.lemmas.Iterator.Search.{any_from_yields_List}
use Rattle.a429_import.specs.ImportRows.{import_columns, is_named}
use Rattle.a429_import.proofs.columns.is_column.Goals as goal

pub returns : goal.returns
returns c = any_from_yields_List (λ column. is_named column c.args.name.now) _ _ c.any.result c.any.ensures.ran (YieldsList-from_slice import_columns cc) (λ x b q k. search (rules, tests))
