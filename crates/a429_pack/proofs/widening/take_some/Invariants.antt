use Rattle.a429_pack.proofs.Widenings.{AreTakenTo}
use Rattle.a429_pack.proofs.widening.take_some.Given as goal

abbrev pub invariant-loop-place : goal.invariant-loop-place
invariant-loop-place l = AreTakenTo l.fn.frame l.needed l.digits l.place l.periods l.chosen l.cells
