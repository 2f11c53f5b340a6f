use Rattle.std.proofs.Common.{◌≡◌, map, take}
use Rattle.a429_pack.specs.Demands.{exponent_of}
use Rattle.a429_pack.specs.Kept.{padded}
use Rattle.a429_slots.proofs.layout.periods_in.Given as goal

abbrev pub invariant-loop-number : goal.invariant-loop-number
invariant-loop-number g l = l.periods ≡ padded 0 g.row.N (map exponent_of (take l.number l.demands))
