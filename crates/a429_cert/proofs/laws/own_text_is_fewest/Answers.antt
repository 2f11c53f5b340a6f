use Rattle.a429_cert.proofs.OwnText.{own_text}
use Rattle.a429_cert.proofs.laws.own_text_is_fewest.Goals as goal

pub returns : goal.returns
returns c = own_text c.fewest_by_demand.ensures.only
