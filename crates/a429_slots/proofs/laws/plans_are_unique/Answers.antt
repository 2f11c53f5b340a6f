use Rattle.a429_slots.proofs.OneFault.{no_fault, one_fault}
use Rattle.a429_slots.proofs.OnePlan.{one_plan}
use Rattle.a429_slots.proofs.laws.plans_are_unique.Goals as goal

pub returns-clause-plan : goal.returns-clause-plan
returns-clause-plan c = one_plan c.layout_orders_are_unique.ensures c.fewest_by_demand.ensures.one c.orders_name_each_once.ensures

pub returns-clause-fault : goal.returns-clause-fault
returns-clause-fault c = one_fault c.fewest_by_demand.ensures.one

pub returns-clause-either : goal.returns-clause-either
returns-clause-either c = no_fault c.fewest_by_demand.ensures.one
