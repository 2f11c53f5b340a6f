use Rattle.a429_grid.proofs.Blocks.{periodic_blocks}
use Rattle.a429_grid.proofs.laws.blocks_are_periodic.Goals as goal

pub returns : goal.returns
returns c = periodic_blocks
