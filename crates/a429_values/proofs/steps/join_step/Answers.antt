use Rattle.std.proofs.Common.{rules}
use Rattle.a429_values.proofs.Keeps.{meets}
use Rattle.a429_values.proofs.steps.join_step.Goals as goal

pub join_seat-requires : goal.join_seat-requires
join_seat-requires c = (search rules, search rules, search rules, search rules, meets _ _ _ _ _ c.requires.view)
