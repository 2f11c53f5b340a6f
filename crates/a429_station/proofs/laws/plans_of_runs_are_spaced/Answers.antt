use Rattle.a429_station.proofs.Plans.{plans_spaced}
use Rattle.a429_station.proofs.laws.plans_of_runs_are_spaced.Goals as goal

pub returns : goal.returns
returns c = plans_spaced c.planned_tables_are_spaced.ensures
