use Rattle.std.proofs.Common.{◌≡◌}
use Rattle.a429_keep.specs.Spots.{spot_on}
use Rattle.a429_keep.proofs.spots.spot_on.Given as goal

abbrev pub invariant-loop-bus : goal.invariant-loop-bus
invariant-loop-bus l = l.best ≡ spot_on l.bus l.frame l.cells l.stands
