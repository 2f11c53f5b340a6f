use Rattle.std.proofs.Common.{◌≡◌, take, None}
use Rattle.std.specs.Prelude.{fold}
use Rattle.a429_judge.specs.Figures.{greater}
use Rattle.a429_judge.proofs.figures.greatest_of.Given as goal

abbrev pub invariant-loop-number : goal.invariant-loop-number
invariant-loop-number l = l.greatest ≡ fold greater None (take l.number-index l.numbers)
