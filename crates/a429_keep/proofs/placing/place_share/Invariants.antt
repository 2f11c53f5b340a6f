use Rattle.std.proofs.Common.{◌≡◌}
use Rattle.a429_keep.specs.Placing.{place_first}
use Rattle.a429_keep.proofs.placing.place_share.Given as goal

abbrev pub invariant-loop-output : goal.invariant-loop-output
invariant-loop-output l = l.stands ≡ place_first l.buses l.frame l.cells l.output l.initial.stands
