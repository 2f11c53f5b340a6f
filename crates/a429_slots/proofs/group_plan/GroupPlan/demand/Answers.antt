use Rattle.std.proofs.Common.{◌∙◌, ap, sum, sym}
use Rattle.a429_slots.specs.declared.group_plan.GroupPlan.TheInside.{Inside}
use Rattle.a429_slots.specs.Tables.{SlotTable, demands_of}
use Rattle.a429_slots.proofs.group_plan.GroupPlan.demand.Goals as goal

pub returns : goal.returns
returns g c =
    ap (λ (p : Inside g.row.N). p.filled) (sym c.self.invariant.kept)
    ∙ ap (λ (t : SlotTable). sum (demands_of t)) c.self.view_is
