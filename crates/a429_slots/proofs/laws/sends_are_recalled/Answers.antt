use Rattle.a429_slots.proofs.Remembering.{recalls_none, decides, recalls_sent, recalls_other}
use Rattle.a429_slots.proofs.laws.sends_are_recalled.Goals as goal

pub returns-clause-none : goal.returns-clause-none
returns-clause-none c = recalls_none

pub returns-clause-decides : goal.returns-clause-decides
returns-clause-decides c = decides

pub returns-clause-sent : goal.returns-clause-sent
returns-clause-sent c = recalls_sent

pub returns-clause-other : goal.returns-clause-other
returns-clause-other c = recalls_other
