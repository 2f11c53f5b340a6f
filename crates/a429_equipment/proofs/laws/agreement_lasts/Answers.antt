use Rattle.a429_equipment.proofs.Lasting.{agrees_more, agrees_part, agrees_beside}
use Rattle.a429_equipment.proofs.laws.agreement_lasts.Goals as goal

pub returns-clause-more : goal.returns-clause-more
returns-clause-more c = agrees_more

pub returns-clause-part : goal.returns-clause-part
returns-clause-part c = agrees_part

pub returns-clause-others : goal.returns-clause-others
returns-clause-others c = agrees_beside
