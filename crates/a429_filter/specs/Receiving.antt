-- What a socket answers, by the words that it took in the call (profile: docs/RULES.md, Receivers, filters and sources).
use Rattle.std.specs.Prelude.{◌≡◌, ◌≤◌, ℕ, Bool, true, false, List, ◌++◌, Option, Some, None, Result, Ok, Err, length, filter, map, min, option_map, ◌+◌, ◌-◌, ◌^◌, ◌==◌, ◌&&◌}
use Rattle.std.specs.List.{FoldsTo}
use Rattle.a429_word.specs.Bits.{has_odd_parity, label_of}
use Rattle.a429_filter.specs.declared.filters.Filter.{Filter}
use Rattle.a429_filter.specs.declared.sources.SourceFault.{SourceFault}
use Rattle.a429_filter.specs.declared.sources.SourceFault.TheVariants.{Failed, Skipped}
use Rattle.a429_filter.specs.Filters.{set_passes}
use Rattle.a429_filter.specs.Sources.{SourceAnswer, word_given}

-- a raw number of odd parity whose label passes
abbrev pub accepts : Option (List Filter) → ℕ → Bool
accepts filters raw = has_odd_parity raw && set_passes filters (label_of raw)

-- an answer is Skipped
abbrev pub is_skipped : Result (Option ℕ) SourceFault → Bool
is_skipped (Ok answer) = false
is_skipped (Err Failed) = false
is_skipped (Err Skipped) = true

-- The words that were taken are refused ones and then the answer's, which passes. The answer is Skipped if and only if
-- 65536 were refused; no more words are looked at (profile: docs/RULES.md, Limits).
pub record Received (filters : Option (List Filter)) (taken : List ℕ) (answer : Result (Option ℕ) SourceFault) : Type 0 where
  pub refused : List ℕ
  pub order : taken ≡ refused ++ word_given answer
  pub passed : filter (accepts filters) taken ≡ word_given answer
  pub looks : length refused ≤ 65536
  pub skipped : is_skipped answer ≡ (length refused == 65536)

-- what the source was asked for after the words: its end or a failure, if that is the answer; otherwise nothing
abbrev pub AsksLast : {L : Type 0} → (L → SourceAnswer → L → Type 0) → L → SourceAnswer → L → Type 0
AsksLast steps before (Ok None) after = steps before (Ok None) after
AsksLast steps before (Ok (Some word)) after = before ≡ after
AsksLast steps before (Err Failed) after = (fault : SourceFault) × steps before (Err fault) after
AsksLast steps before (Err Skipped) after = before ≡ after

-- In the call the source was asked for each word that it gave, and after them for its end or its failure, if that is
-- the answer.
abbrev pub HasAskedSource : {L : Type 0} → (L → List ℕ) → (L → SourceAnswer → L → Type 0) → L → SourceAnswer → L → Type 0
HasAskedSource {L} given steps before answer after =
    (taken : List ℕ) × (behind : L) × (given after ≡ given before ++ taken)
    × FoldsTo steps before (map (λ raw. Ok (Some raw)) taken) behind × AsksLast steps behind answer after

-- The words that the source gave in the call determine the answer. What followed those words is still to come.
abbrev pub ReceivesFrom : {L : Type 0} → (L → List ℕ) → (L → Option (List ℕ)) → L → L → Option (List Filter) → SourceAnswer → Type 0
ReceivesFrom given left before after filters answer =
    (taken : List ℕ) × (given after ≡ given before ++ taken) × (left before ≡ option_map (λ more. taken ++ more) (left after))
    × Received filters taken answer

-- the count of the source's failures after the call: it failed, once, if and only if the answer is Failed
abbrev pub failures_since : ℕ → Result (Option ℕ) SourceFault → ℕ
failures_since n (Ok answer) = n
failures_since n (Err Failed) = min (n + 1) (2 ^ 64 - 1)
failures_since n (Err Skipped) = n

-- a line with the filters of its receiver
pub record SocketState (L : Type 0) : Type 0 where
  pub source : L
  pub filters : Option (List Filter)
