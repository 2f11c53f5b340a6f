use Rattle.std.proofs.Common.{◌≡◌, ◌++◌, map, take, drop}
use Rattle.a429_keep.specs.Placing.{cleared}
use Rattle.a429_keep.proofs.placing.clear.Given as goal

abbrev pub invariant-loop-stand : goal.invariant-loop-stand
invariant-loop-stand l = l.stands ≡ map (cleared l.block) (take l.stand-index l.initial.stands) ++ drop l.stand-index l.initial.stands
