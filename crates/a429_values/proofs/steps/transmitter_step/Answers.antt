use Rattle.std.proofs.Common.{rules}
use Rattle.a429_values.proofs.Keeps.{new_transmitter}
use Rattle.a429_values.proofs.steps.transmitter_step.Goals as goal

pub split_seat-requires : goal.split_seat-requires
split_seat-requires g c = (search rules, search rules, new_transmitter _ _ _ _ c.requires.view.0 c.requires.view.1)
