use Rattle.std.proofs.Common.{◌≡◌, ◌+◌, ◌<◌, ◌≤◌, ℕ, map, sum, take}
use Rattle.a429_slots.specs.Kept.{steps_from}
use Rattle.a429_slots.specs.Moves.{block_at}
use Rattle.a429_slots.proofs.Moving.{last_end}
use Rattle.a429_slots.proofs.moves.stretches_of.Given as goal

abbrev pub invariant-loop-block : goal.invariant-loop-block
invariant-loop-block g l = record {
  sums : l.sums ≡ steps_from 0 (map (λ b. b.end) (take l.block-index l.blocks));
  total : sum l.sums ≡ last_end 0 (map (λ b. b.end) (take l.block-index l.blocks));
  apart : (k : ℕ) → k + 1 < l.block-index → (block_at l.blocks k).end ≤ (block_at l.blocks (k + 1)).begin;
}
