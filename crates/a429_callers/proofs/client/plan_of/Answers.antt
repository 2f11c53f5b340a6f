use Rattle.a429_callers.proofs.OneRuns.{some_of_ok}
use Rattle.a429_callers.proofs.client.plan_of.Goals as goal

pub returns : goal.returns
returns c = some_of_ok _ c.plan.result c.ok.result c.ok.ensures.value c.plan.ensures.planned
