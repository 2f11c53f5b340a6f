use Rattle.std.proofs.Common.{◌≡◌, map, take}
use Rattle.a429_pack.specs.Kept.{padded}
use Rattle.a429_slots.specs.Laid.{laid_by, nothing_laid}
use Rattle.a429_slots.proofs.moves.laid_by_blocks.Given as goal

abbrev pub invariant-loop-place : goal.invariant-loop-place
invariant-loop-place g l = l.laid ≡ padded nothing_laid g.row.N (map laid_by (take l.place l.blocks))
