use Rattle.a429_core.proofs.LatencyExample.{meets}
use Rattle.a429_core.proofs.laws.latency_applies.Goals as goal

pub returns : goal.returns
returns c = meets
