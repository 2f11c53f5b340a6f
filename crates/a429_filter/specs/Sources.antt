-- What a source of a line gave (vocabulary of contracts).
use Rattle.std.specs.Prelude.{ℕ, Bool, true, false, List, [], ◌∷◌, Option, Some, None, Result, Ok, Err, ◌+◌, ◌-◌, ◌^◌, ◌&&◌, min}
use Rattle.a429_filter.specs.declared.sources.SourceFault.{SourceFault}
use Rattle.a429_line.specs.declared.found.Found.{Found}
use Rattle.a429_line.specs.declared.found.Found.TheVariants.{Word, Parity, Short, Long, Gap}

-- what a call answers: a word, the end, or a fault
abbrev pub SourceAnswer : Type 0
SourceAnswer = Result (Option ℕ) SourceFault

-- the word that an answer gives
abbrev pub word_given : Result (Option ℕ) SourceFault → List ℕ
word_given (Ok None) = []
word_given (Ok (Some raw)) = raw ∷ []
word_given (Err fault) = []

-- an answer is the end
abbrev pub is_end : Result (Option ℕ) SourceFault → Bool
is_end (Ok None) = true
is_end (Ok (Some raw)) = false
is_end (Err fault) = false

-- the count of failures after an answer: it rises by one at a fault and at no other, and stays at the last value of 64 bits
abbrev pub failures_after : ℕ → Result (Option ℕ) SourceFault → ℕ
failures_after n (Ok answer) = n
failures_after n (Err fault) = min (n + 1) (2 ^ 64 - 1)

-- the list, or the empty one if it is not known
abbrev pub list_or_none : Option (List ℕ) → List ℕ
list_or_none None = []
list_or_none (Some words) = words

-- ---- words in memory

-- the raw number of a report of 32 bits
abbrev pub raw_found : Found → Option ℕ
raw_found (Word raw) = Some raw
raw_found (Parity raw) = Some raw
raw_found (Short n) = None
raw_found Long = None
raw_found (Gap n) = None

-- the words that were given, those that are left, and whether the last call found none left
pub record Memory : Type 0 where
  pub given : List ℕ
  pub left : List ℕ
  pub at_end : Bool

-- no call was made yet
abbrev pub at_start : List ℕ → Memory
at_start words = record { given = []; left = words; at_end = false }

-- a list without words
abbrev pub has_none : List ℕ → Bool
has_none [] = true
has_none (raw ∷ words) = false

-- the last call answered the end, and all was given
abbrev pub all_given : Memory → Bool
all_given line = line.at_end && has_none line.left
