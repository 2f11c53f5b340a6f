use Rattle.std.proofs.Common.{◌≡◌, map}
use Rattle.std.specs.List.{range_with_len}
use Rattle.a429_slots.specs.Moves.{block_of, place_in}
use Rattle.a429_slots.proofs.moves.blocks_of.Given as goal

abbrev pub invariant-loop-output : goal.invariant-loop-output
invariant-loop-output l = l.blocks.items ≡ map (λ o. block_of l.frame o (place_in l.places o)) (range_with_len 0 l.output)
