use Rattle.std.proofs.Common.{◌≡◌, map, take}
use Rattle.a429_pack.specs.Kept.{padded}
use Rattle.a429_slots.proofs.layout.sources_in.Given as goal

abbrev pub invariant-loop-number : goal.invariant-loop-number
invariant-loop-number g l = l.sources ≡ padded 0 g.row.N (map (λ r. r.source) (take l.number l.outputs))
