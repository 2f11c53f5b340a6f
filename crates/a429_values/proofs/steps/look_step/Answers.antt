use Rattle.std.proofs.Common.{rules}
use Rattle.a429_values.proofs.Keeps.{looks}
use Rattle.a429_values.proofs.steps.look_step.Goals as goal

pub load-requires : goal.load-requires
load-requires c = (search rules, search rules, looks _ _ _ _ _)
