use Rattle.std.proofs.Common.{ap}
use Rattle.a429_slots.specs.Tables.{PlanTable}
use Rattle.a429_slots.proofs.plans.Plan.number.Goals as goal

pub returns : goal.returns
returns g c = ap (λ (t : PlanTable). t.number) c.self.view_is
