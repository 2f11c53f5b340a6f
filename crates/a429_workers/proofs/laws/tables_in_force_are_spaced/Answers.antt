use Rattle.a429_workers.proofs.OneTable.{in_force}
use Rattle.a429_workers.proofs.laws.tables_in_force_are_spaced.Goals as goal

pub returns : goal.returns
returns c = in_force
