use Rattle.a429_slots.proofs.SamePlan.{plan_spaced, first_only, not_at_first}
use Rattle.a429_slots.proofs.laws.spacing_empties_first_cells_only.Goals as goal

pub returns-clause-plan : goal.returns-clause-plan
returns-clause-plan c = plan_spaced

pub returns-clause-first : goal.returns-clause-first
returns-clause-first c = first_only

pub returns-clause-opening : goal.returns-clause-opening
returns-clause-opening c = not_at_first
