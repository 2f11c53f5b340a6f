use Rattle.a429_documents.proofs.SharesOfPlans.{needed_buses_are_fewest}
use Rattle.a429_documents.proofs.laws.needed_buses_are_fewest.Goals as goal

pub returns : goal.returns
returns c = needed_buses_are_fewest
