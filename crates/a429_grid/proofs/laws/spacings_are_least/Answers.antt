use Rattle.a429_grid.proofs.Quotients.{is_least, within_period}
use Rattle.a429_grid.proofs.laws.spacings_are_least.Goals as goal

pub returns-clause-least : goal.returns-clause-least
returns-clause-least c = is_least

pub returns-clause-period : goal.returns-clause-period
returns-clause-period c = within_period
