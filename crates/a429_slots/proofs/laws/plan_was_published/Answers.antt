use Rattle.a429_slots.proofs.Published.{newest_is, came_from}
use Rattle.a429_slots.proofs.laws.plan_was_published.Goals as goal

pub returns-clause-newest : goal.returns-clause-newest
returns-clause-newest c = newest_is

pub returns-clause-own : goal.returns-clause-own
returns-clause-own c = came_from
