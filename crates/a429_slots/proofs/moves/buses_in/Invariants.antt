use Rattle.std.proofs.Common.{◌≡◌, map, take}
use Rattle.a429_pack.specs.Kept.{padded}
use Rattle.a429_slots.proofs.moves.buses_in.Given as goal

abbrev pub invariant-loop-output : goal.invariant-loop-output
invariant-loop-output g l = l.buses ≡ padded 0 g.row.N (map (λ p. p.bus) (take l.output l.places))
