use Rattle.a429_pack.proofs.Demanded.{carried, only}
use Rattle.a429_pack.proofs.laws.fewest_by_demand.Goals as goal

pub returns-clause-carried : goal.returns-clause-carried
returns-clause-carried c = carried c.blocks_are_periodic.ensures

pub returns-clause-only : goal.returns-clause-only
returns-clause-only c = only c.blocks_are_periodic.ensures
