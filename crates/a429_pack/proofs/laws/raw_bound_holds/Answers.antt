use Rattle.a429_pack.proofs.Windows.{cells_are_asked, bound_holds}
use Rattle.a429_pack.proofs.laws.raw_bound_holds.Goals as goal

pub returns-clause-asked : goal.returns-clause-asked
returns-clause-asked c = cells_are_asked

pub returns-clause-bound : goal.returns-clause-bound
returns-clause-bound c = bound_holds
