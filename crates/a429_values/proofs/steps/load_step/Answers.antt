use Rattle.std.proofs.Common.{rules}
use Rattle.a429_values.proofs.Keeps.{finds}
use Rattle.a429_values.proofs.steps.load_step.Goals as goal

pub load-requires : goal.load-requires
load-requires c = (search rules, search rules, finds _ _ _ _ _ c.requires.source.0 c.requires.view.0)
