-- Words that are sorted by their bits (vocabulary of contracts).
use Rattle.std.specs.Prelude.{◌+◌, ◌*◌, ◌^◌, ℕ, Bool, List, IsPermutation, nat_lt}
use Rattle.std.specs.List.Sorted.{IsNonDecreasingBy}
use Rattle.a429_judge.specs.declared.facts.Mark.{Mark}

-- by what words are sorted: their bits, and then their times; 2^66 is more than any time and tolerance together
abbrev pub word_key : Mark → ℕ
word_key a = a.raw * 2 ^ 66 + a.time

-- a word has lower bits than these
abbrev pub is_lower : ℕ → Mark → Bool
is_lower raw a = nat_lt (word_key a) (raw * 2 ^ 66)

-- these are the accepted words, sorted
pub record AreWords (accepted words : List Mark) : Type 0 where
  pub same : IsPermutation accepted words
  pub order : IsNonDecreasingBy word_key words
