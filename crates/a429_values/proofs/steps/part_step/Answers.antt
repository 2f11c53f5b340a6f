use Rattle.std.proofs.Common.{rules}
use Rattle.a429_values.proofs.Keeps.{parts}
use Rattle.a429_values.proofs.steps.part_step.Goals as goal

pub split_seat-requires : goal.split_seat-requires
split_seat-requires c = (search rules, search rules, parts _ _ _ c.requires.view)
