use Rattle.a429_slots.proofs.GoingOn.{answered_grow}
use Rattle.a429_slots.proofs.laws.answered_cells_grow.Goals as goal

pub returns : goal.returns
returns c = answered_grow
