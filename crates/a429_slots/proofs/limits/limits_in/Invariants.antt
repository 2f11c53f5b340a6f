use Rattle.std.proofs.Common.{◌≡◌, map, take}
use Rattle.a429_pack.specs.Kept.{padded}
use Rattle.a429_slots.specs.Asked.{limits_at}
use Rattle.a429_slots.specs.Tables.{unlimited}
use Rattle.a429_slots.proofs.limits.limits_in.Given as goal

abbrev pub invariant-loop-number : goal.invariant-loop-number
invariant-loop-number g l = l.all ≡ padded unlimited g.row.N (map (limits_at l.rate) (take l.number l.outputs))
