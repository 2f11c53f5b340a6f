use Rattle.std.proofs.Common.{◌≡◌, length, map, take}
use Rattle.std.specs.List.{range_with_len}
use Rattle.a429_pack.specs.Kept.{padded}
use Rattle.a429_slots.specs.Laid.{laid_at, nothing_laid}
use Rattle.a429_slots.proofs.layout.laid_outputs.Given as goal

abbrev pub invariant-loop-place : goal.invariant-loop-place
invariant-loop-place g l = l.laid ≡ padded nothing_laid g.row.N (map (laid_at l.packed) (take l.place (range_with_len 0 (length l.packed.inputs))))
