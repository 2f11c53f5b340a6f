use Rattle.std.proofs.Common.{refl}
use Rattle.a429_pack.proofs.Packings.{fewest_needed, within}
use Rattle.a429_pack.proofs.packing.fewest_buses.Goals as goal

pub buses_needed-requires : goal.buses_needed-requires
buses_needed-requires c = within c.args.frame c.args.demands.now c.args.entries.now c.requires.order c.requires.frame

pub returns-clause-fewest : goal.returns-clause-fewest
returns-clause-fewest c =
    fewest_needed _ _ _ _ _ c.requires.frame c.requires.order refl c.buses_needed.ensures c.blocks_are_periodic.ensures
