use Rattle.a429_callers.proofs.Icd.Imports.{same_plan}
use Rattle.a429_callers.proofs.laws.imported_icd_is_same_plan.Goals as goal

pub returns : goal.returns
returns c = same_plan c.plans_are_unique.ensures.plan
