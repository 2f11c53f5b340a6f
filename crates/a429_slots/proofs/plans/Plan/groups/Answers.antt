use Rattle.std.proofs.Common.{◌∙◌, ap, length, sym}
use Rattle.a429_pack.specs.Kept.{length-kept}
use Rattle.a429_slots.specs.Tables.{PlanTable, no_table}
use Rattle.a429_slots.proofs.plans.Plan.groups.Goals as goal

pub returns-clause-value : goal.returns-clause-value
returns-clause-value g c =
    sym (length-kept no_table 8 c.self.inside.groups c.self.inside.count c.self.invariant.0 c.self.invariant.1) ∙ ap (λ (t : PlanTable). length t.groups) c.self.view_is
