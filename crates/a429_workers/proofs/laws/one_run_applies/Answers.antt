use Rattle.a429_workers.proofs.Example.{working}
use Rattle.a429_workers.proofs.laws.one_run_applies.Goals as goal

pub returns : goal.returns
returns c = working
