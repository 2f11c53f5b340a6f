use Rattle.a429_slots.proofs.SpacedPlans.{in_force}
use Rattle.a429_slots.proofs.laws.plans_in_force_are_spaced.Goals as goal

pub returns : goal.returns
returns c = in_force c.none_is_above_the_greatest.ensures
