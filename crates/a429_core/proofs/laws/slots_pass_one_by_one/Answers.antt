use Rattle.a429_core.proofs.Passing.{passed}
use Rattle.a429_core.proofs.laws.slots_pass_one_by_one.Goals as goal

pub returns : goal.returns
returns c E i k bus slot after few keeps low high = (passed E.opening E.group E.table E.events i k bus after few keeps).all slot low high
