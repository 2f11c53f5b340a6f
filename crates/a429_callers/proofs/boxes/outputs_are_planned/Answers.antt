use Rattle.a429_callers.proofs.JudgedGroups.{outputs_are_planned}
use Rattle.a429_callers.proofs.boxes.outputs_are_planned.Goals as goal

pub returns : goal.returns
returns c = outputs_are_planned c.grid_periods_are_planned.ensures
