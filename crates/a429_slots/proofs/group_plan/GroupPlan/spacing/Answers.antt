use Rattle.std.proofs.Common.{ap}
use Rattle.std.specs.Prelude.{option_map}
use Rattle.a429_slots.specs.declared.group_plan.SendLimits.{SendLimits}
use Rattle.a429_slots.proofs.group_plan.GroupPlan.spacing.Goals as goal

pub limits-requires : goal.limits-requires
limits-requires g c = (assumption, c.requires)

pub returns-clause-spacing : goal.returns-clause-spacing
returns-clause-spacing g c = ap (option_map (λ (l : SendLimits). l.spacing)) c.limits.ensures.limits

pub returns-clause-some : goal.returns-clause-some
returns-clause-some g c = c.limits.ensures.some
