use Rattle.a429_workers.proofs.OneTable.{first_only, none_at_first, table_apart}
use Rattle.a429_workers.proofs.laws.spacing_empties_first_cells_only.Goals as goal

pub returns-clause-table : goal.returns-clause-table
returns-clause-table c = table_apart

pub returns-clause-first : goal.returns-clause-first
returns-clause-first c = first_only

pub returns-clause-opening : goal.returns-clause-opening
returns-clause-opening c = none_at_first
