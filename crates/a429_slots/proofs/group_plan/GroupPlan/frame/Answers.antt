use Rattle.std.proofs.Common.{◌∙◌, ap}
use Rattle.a429_slots.specs.Tables.{SlotTable, frame_of}
use Rattle.a429_slots.proofs.group_plan.GroupPlan.frame.Goals as goal

pub returns-clause-value : goal.returns-clause-value
returns-clause-value g c = c.slots.ensures.value ∙ ap (λ (t : SlotTable). frame_of t) c.self.view_is
