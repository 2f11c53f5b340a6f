-- What a receiver does with the raw words that a line gave, one after another (vocabulary of contracts).
use Rattle.std.specs.Prelude.{◌≡◌, ◌≤◌, ◌+◌, ◌∷◌, [], ◌++◌, ℕ, Bool, true, false, List, Option, Result, Ok, Err, length, take, count_by, option_map}
use Rattle.a429_equipment.specs.Receiving.{accepted_after}
use Rattle.a429_values.specs.Ends.{ReceiverEnd, accept_answer}
use Rattle.a429_values.specs.declared.receiver.Accept.{Accept}
use Rattle.a429_values.specs.declared.receiver.Accept.TheVariants.{Accepted, Parity, Filtered, NoSource, CountSpent}
use Rattle.a429_workers.specs.Sinks.{failures_by}
use Rattle.a429_workers.specs.declared.receiving.ReceiveTotals.{ReceiveTotals}
use Rattle.a429_workers.specs.declared.receiving.ReceiveFault.{ReceiveFault}
use Rattle.a429_workers.specs.declared.receiving.ReceiveFault.TheVariants.{Source, Gate, TooMuch}

-- hub and number stay the same, and how many words of a source it accepts
abbrev pub IsSameReceiver : ReceiverEnd → ReceiverEnd → Type 0
IsSameReceiver old new = new ≡ record old { accepted = new.accepted }

-- the receiver after these raw words came in
abbrev pub after_words : ReceiverEnd → List ℕ → ReceiverEnd
after_words r raws = record r { accepted = accepted_after r.limit r.at.station r.number r.accepted raws }

-- its answers to them, each by what it had accepted before
abbrev pub answers_to : ReceiverEnd → List ℕ → List Accept
answers_to r [] = []
answers_to r (raw ∷ raws) = accept_answer r raw ∷ answers_to (after_words r (raw ∷ [])) raws

abbrev pub is_accepted : Accept → Bool
is_accepted (Accepted source) = true
is_accepted Parity = false
is_accepted Filtered = false
is_accepted NoSource = false
is_accepted CountSpent = false

abbrev pub is_parity : Accept → Bool
is_parity (Accepted source) = false
is_parity Parity = true
is_parity Filtered = false
is_parity NoSource = false
is_parity CountSpent = false

abbrev pub is_filtered : Accept → Bool
is_filtered (Accepted source) = false
is_filtered Parity = false
is_filtered Filtered = true
is_filtered NoSource = false
is_filtered CountSpent = false

abbrev pub is_no_source : Accept → Bool
is_no_source (Accepted source) = false
is_no_source Parity = false
is_no_source Filtered = false
is_no_source NoSource = true
is_no_source CountSpent = false

abbrev pub is_spent : Accept → Bool
is_spent (Accepted source) = false
is_spent Parity = false
is_spent Filtered = false
is_spent NoSource = false
is_spent CountSpent = true

-- how many of these answers there are of each kind
abbrev pub totals_of : List Accept → ReceiveTotals
totals_of answers = record {
  accepted = count_by is_accepted answers;
  parity = count_by is_parity answers;
  filtered = count_by is_filtered answers;
  no_source = count_by is_no_source answers;
  spent = count_by is_spent answers;
}

-- with one more answer
abbrev pub counted : ReceiveTotals → Accept → ReceiveTotals
counted t (Accepted source) = record t { accepted = t.accepted + 1 }
counted t Parity = record t { parity = t.parity + 1 }
counted t Filtered = record t { filtered = t.filtered + 1 }
counted t NoSource = record t { no_source = t.no_source + 1 }
counted t CountSpent = record t { spent = t.spent + 1 }

-- no more than n of any kind
pub record AreAtMost (n : ℕ) (t : ReceiveTotals) : Type 0 where
  pub accepted : t.accepted ≤ n
  pub parity : t.parity ≤ n
  pub filtered : t.filtered ≤ n
  pub no_source : t.no_source ≤ n
  pub spent : t.spent ≤ n

-- Between these two states the source of a line gave these words, in order, and lost none. If the source says what it
-- had still to give, these words are the first of those.
pub record Gives {L : Type 0} (given : L → List ℕ) (left : L → Option (List ℕ)) (before : L) (words : List ℕ) (after : L) : Type 0 where
  pub gave : given after ≡ given before ++ words
  pub kept : left before ≡ option_map (λ more. words ++ more) (left after)

-- The line gave a million words and then this one: the receiver took the million, which the totals count, and the last word is handed back
-- (profile: docs/RULES.md, Limits).
pub record IsHandedBack (given : List ℕ) (raw : ℕ) (totals : ReceiveTotals) (old new : ReceiverEnd) : Type 0 where
  pub words : List ℕ
  pub million : length words ≡ 1000000
  pub all : given ≡ words ++ raw ∷ []
  pub taken : new ≡ after_words old words
  pub counted : totals ≡ totals_of (answers_to old words)

-- The line gave these words. If the line ended or failed, the receiver took all of them. If they were too many, it took
-- all but the last, which is handed back. If the gate ended the loop, it took all, or all but the last.
abbrev pub LineWordsAreTaken : List ℕ → Result ReceiveTotals ReceiveFault → ReceiverEnd → ReceiverEnd → Type 0
LineWordsAreTaken given (Ok totals) old new = (new ≡ after_words old given) × (totals ≡ totals_of (answers_to old given)) × (length given ≤ 1000000)
LineWordsAreTaken given (Err Source) old new = (new ≡ after_words old given) × (length given ≤ 1000000)
LineWordsAreTaken given (Err (TooMuch raw totals)) old new = IsHandedBack given raw totals old new
LineWordsAreTaken given (Err Gate) old new = (taken : ℕ) × (new ≡ after_words old (take taken given)) × (length given ≤ taken + 1) × (length given ≤ 1000000)

-- the count of failures of the line: it rises by one if the line failed
abbrev pub source_failures : ℕ → Result ReceiveTotals ReceiveFault → ℕ
source_failures n (Ok totals) = n
source_failures n (Err Source) = failures_by {A = ℕ} {E = ReceiveFault} n (Err Source)
source_failures n (Err (TooMuch raw totals)) = n
source_failures n (Err Gate) = n
