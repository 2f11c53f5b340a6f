use Rattle.std.proofs.Common.{◌≡◌}
use Rattle.a429_keep.specs.Placing.{place_all, place_down}
use Rattle.a429_keep.proofs.placing.place_all.Given as goal

abbrev pub invariant-loop-digits : goal.invariant-loop-digits
invariant-loop-digits l = place_down l.buses l.frame l.digits l.stands ≡ place_all l.buses l.frame l.initial.stands
