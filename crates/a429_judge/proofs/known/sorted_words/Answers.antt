use Rattle.std.proofs.Common.{List, subst, rules}
use Rattle.std.specs.Prelude.{IsPermutation}
use Rattle.std.proofs.lemmas.List.Sorted.{IsNonDecreasingBy-from_sort_by_key}
use Rattle.a429_judge.specs.declared.facts.Mark.{Mark}
use Rattle.a429_judge.specs.Known.{word_key}
use Rattle.a429_judge.proofs.known.sorted_words.Goals as goal

pub returns : goal.returns
returns c = record {
  same = subst (λ (ms : List Mark). IsPermutation ms c.sort_unstable_by_key.new.self.items) c.in_ok-words.ensures.items c.sort_unstable_by_key.ensures.permutation;
  order = IsNonDecreasingBy-from_sort_by_key word_key _ c.sort_unstable_by_key.ensures.sorted (λ a r q k. search rules);
}
