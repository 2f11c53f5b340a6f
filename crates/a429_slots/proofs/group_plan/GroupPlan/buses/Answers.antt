use Rattle.std.proofs.Common.{ap}
use Rattle.a429_slots.specs.Tables.{SlotTable, buses_of}
use Rattle.a429_slots.proofs.group_plan.GroupPlan.buses.Goals as goal

pub returns-clause-value : goal.returns-clause-value
returns-clause-value g c = ap (λ (t : SlotTable). buses_of t) c.self.view_is

pub returns-clause-few : goal.returns-clause-few
returns-clause-few g c = c.self.invariant.table.few
