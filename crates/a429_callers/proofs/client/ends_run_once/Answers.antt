use Rattle.a429_callers.proofs.OneRuns.{one_run_of}
use Rattle.a429_callers.proofs.client.ends_run_once.Goals as goal

pub returns : goal.returns
returns c = one_run_of c.one_run.ensures
