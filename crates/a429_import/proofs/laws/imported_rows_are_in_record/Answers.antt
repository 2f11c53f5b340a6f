use Rattle.a429_import.proofs.RowsInRecord.{rows_in_record}
use Rattle.a429_import.proofs.laws.imported_rows_are_in_record.Goals as goal

pub returns : goal.returns
returns c = rows_in_record
