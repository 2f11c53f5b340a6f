use Rattle.std.proofs.Common.{◌≡◌, take}
use Rattle.a429_pack.specs.Entries.{inputs_of}
use Rattle.a429_pack.specs.Kept.{padded}
use Rattle.a429_pack.proofs.packing.inputs_in.Given as goal

abbrev pub invariant-loop-place : goal.invariant-loop-place
invariant-loop-place g l = l.inputs ≡ padded 0 g.row.N (inputs_of (take l.place l.entries))
