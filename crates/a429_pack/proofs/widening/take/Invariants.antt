use Rattle.a429_pack.specs.Taken.{AreTaken}
use Rattle.a429_pack.proofs.widening.take.Given as goal

abbrev pub invariant-loop-digits : goal.invariant-loop-digits
invariant-loop-digits l = AreTaken l.frame l.needed l.digits l.periods l.chosen l.cells
