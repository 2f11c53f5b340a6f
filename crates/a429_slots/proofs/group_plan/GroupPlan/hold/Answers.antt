use Rattle.std.proofs.Common.{ap}
use Rattle.std.specs.Prelude.{option_map}
use Rattle.a429_slots.specs.declared.group_plan.SendLimits.{SendLimits}
use Rattle.a429_slots.proofs.group_plan.GroupPlan.hold.Goals as goal

pub limits-requires : goal.limits-requires
limits-requires g c = (assumption, c.requires)

pub returns : goal.returns
returns g c = ap (option_map (λ (l : SendLimits). l.hold)) c.limits.ensures.limits
