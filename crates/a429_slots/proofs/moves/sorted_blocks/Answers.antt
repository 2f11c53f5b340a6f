use Rattle.std.proofs.lemmas.List.Sorted.{IsNonDecreasingBy-from_sort_by_key}
use Rattle.a429_slots.specs.declared.moves.Block.{Block}
use Rattle.a429_slots.proofs.moves.sorted_blocks.Goals as goal

pub returns-clause-rising : goal.returns-clause-rising
returns-clause-rising c = IsNonDecreasingBy-from_sort_by_key (λ (b : Block). b.begin) _ c.sort_unstable_by_key.ensures.sorted (λ a r f' called. search called)
