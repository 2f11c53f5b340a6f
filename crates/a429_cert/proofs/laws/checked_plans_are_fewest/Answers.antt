use Rattle.a429_cert.proofs.CheckedFewest.{checked_is_fewest}
use Rattle.a429_cert.proofs.laws.checked_plans_are_fewest.Goals as goal

pub returns : goal.returns
returns c = checked_is_fewest c.fewest_by_demand.ensures.carried
