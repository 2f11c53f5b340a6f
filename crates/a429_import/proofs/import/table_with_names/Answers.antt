use Rattle.std.proofs.Common.{List, Some, subst}
use Rattle.a429_import.specs.declared.rows.ImportRow.{ImportRow}
use Rattle.a429_import.specs.Imports.{IsTableOf}
use Rattle.a429_import.specs.KeptFields.{lines_kept}
use Rattle.a429_import.specs.NumberRanges.{HaveRanges}
use Rattle.a429_import.proofs.ChosenNames.{same_ranges}
use Rattle.a429_import.proofs.import.table_with_names.Goals as goal

pub returns-clause-table : goal.returns-clause-table
returns-clause-table c = λ ranges.
    let rows : List ImportRow = c.args.known.now.rows.items in
    subst (λ (rs : List ImportRow). HaveRanges rs → IsTableOf (lines_kept c.args.kept.now) (Some rows) rs c.table_of_rows.result) c.in_ok-renamed.ensures.rows c.table_of_rows.ensures.table (same_ranges rows rows ranges)
