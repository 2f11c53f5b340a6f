-- What a receiver does with a line of any length (vocabulary of contracts).
use Rattle.std.specs.Prelude.{◌≡◌, ◌+◌, ◌-◌, ◌^◌, ◌++◌, ◌∷◌, [], ◌⊎◌, ℕ, Bool, true, false, List, Result, Ok, Err, length, count_by, min, if◌then◌else◌}
use Rattle.a429_filter.specs.declared.sources.LineSource as LineSource
use Rattle.a429_filter.specs.declared.sources.SourceFault.{SourceFault}
use Rattle.a429_values.specs.Ends.{ReceiverEnd, accept_answer}
use Rattle.a429_values.specs.declared.receiver.Accept.{Accept}
use Rattle.a429_workers.specs.Receives.{after_words, answers_to, is_accepted}
use Rattle.a429_uses.specs.declared.listening.LineCount.{LineCount}

-- the line gave words, and the receiver took each of them, in order
pub record HasListened {L : Type 0} (given : L → List ℕ) (line : L) (receiver : ReceiverEnd) (after : L) (end : ReceiverEnd) : Type 0 where
  pub words : List ℕ
  pub gave : given after ≡ given line ++ words
  pub taken : end ≡ after_words receiver words

-- how many of these words the receiver accepted, and how many it refused
pub record AreCounted (receiver : ReceiverEnd) (words : List ℕ) (count : LineCount) : Type 0 where
  pub accepted : count.accepted ≡ count_by is_accepted (answers_to receiver words)
  pub all : count.accepted + count.refused ≡ length words

-- the line gave words to its end, or as many as 64 bits count; the receiver took each of them; and they are counted
pub record HasListenedToEnd {L : Type 0} (source : LineSource.Ghosts L) (line : L) (receiver : ReceiverEnd) (after : L) (end : ReceiverEnd) (count : LineCount) : Type 0 where
  pub words : List ℕ
  pub gave : source.given after ≡ source.given line ++ words
  pub taken : end ≡ after_words receiver words
  pub counted : AreCounted receiver words count
  pub whole : (source.ended after ≡ true) ⊎ (length words ≡ 2 ^ 64 - 1)

-- ---- one word

-- with one more answer, as far as 64 bits count
abbrev pub count_more : LineCount → Accept → LineCount
count_more count answer =
    if is_accepted answer then record count { accepted = min (count.accepted + 1) (2 ^ 64 - 1) } else record count { refused = min (count.refused + 1) (2 ^ 64 - 1) }

-- a line with its receiver and what was counted
pub record Heard (L : Type 0) : Type 0 where
  pub line : L
  pub receiver : ReceiverEnd
  pub count : LineCount

-- the line gave a word, which the receiver took, and which is counted; or the line ended
abbrev pub HasHeard : {L : Type 0} → LineSource.Ghosts L → Heard L → Heard L → Result Bool SourceFault → Type 0
HasHeard source old new (Ok true) = (raw : ℕ) × (source.given new.line ≡ source.given old.line ++ raw ∷ []) × (new.receiver ≡ after_words old.receiver (raw ∷ []))
    × (new.count ≡ count_more old.count (accept_answer old.receiver raw))
HasHeard source old new (Ok false) = (source.given new.line ≡ source.given old.line) × (new.receiver ≡ old.receiver) × (new.count ≡ old.count) × (source.ended new.line ≡ true)
HasHeard source old new (Err fault) = (source.given new.line ≡ source.given old.line) × (new.receiver ≡ old.receiver)

abbrev pub heard_at : {L : Type 0} → L → ReceiverEnd → LineCount → Heard L
heard_at line receiver count = record { line = line; receiver = receiver; count = count }
