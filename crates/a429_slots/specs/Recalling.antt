-- What has to be kept of a group's earlier cells to determine the word that is sent in the next one (vocabulary of contracts).
use Rattle.std.specs.Prelude.{◌≡◌, ◌==◌, ◌&&◌, ◌+◌, ◌<◌, ◌≤◌, ◌++◌, ◌∷◌, [], ℕ, Bool, List, Option, Some, None, false, not, if◌then◌else◌, nat_lt, nat_le, slice_get, slice_set}
use Rattle.std.specs.Option.{option_map_or}
use Rattle.a429_slots.specs.declared.senders.Due.{Due}
use Rattle.a429_slots.specs.History.{AnsweredCell, has_sent, sent_word, times_sent, is_too_close}

-- The word of a source that the group sent last: its number among the accepted words, how often it was sent, and the
-- slot of the last time. `times` is 0 if none was sent.
pub record Recent : Type 0 where
  pub count : ℕ
  pub times : ℕ
  pub slot : ℕ

abbrev pub never : Recent
never = record { count = 0; times = 0; slot = 0 }

-- how often the accepted word of this number was sent
abbrev pub times_of : Recent → ℕ → ℕ
times_of r count = if r.count == count then r.times else 0

-- it may be sent in this slot
abbrev pub may_send : Recent → ℕ → ℕ → Option ℕ → ℕ → Bool
may_send r slot count hold q =
    not (option_map_or (λ most. nat_le most (times_of r count)) hold false) && not (nat_lt 0 r.times && nat_lt slot (r.slot + q))

abbrev pub sent_again : Recent → ℕ → ℕ → Recent
sent_again r slot count = record { count = count; times = times_of r count + 1; slot = slot }

-- what is kept after the cell, if the cell was asked for
abbrev pub recent_after : Recent → ℕ → ℕ → Option ℕ → ℕ → Recent
recent_after r slot count hold q = if may_send r slot count hold q then sent_again r slot count else r

-- by what is kept of each source, a word of an output's source may be sent, and what is kept then
abbrev pub source_sends : List Recent → ℕ → ℕ → Due → Bool
source_sends rs slot count due = option_map_or (λ r. may_send r slot count due.limits.hold due.limits.spacing) (slice_get rs due.source) false

abbrev pub source_after : List Recent → ℕ → ℕ → Due → List Recent
source_after rs slot count due =
    option_map_or (λ r. slice_set rs due.source (recent_after r slot count due.limits.hold due.limits.spacing)) (slice_get rs due.source) rs

-- this is what is kept of these earlier cells for a source
pub record Recalls (earlier : List AnsweredCell) (source : ℕ) (r : Recent) : Type 0 where
  pub times : times_sent earlier source r.count ≡ r.times
  pub newer : (count : ℕ) → r.count < count → times_sent earlier source count ≡ 0
  pub close : (slot q : ℕ) → is_too_close earlier slot source q ≡ (nat_lt 0 r.times && nat_lt slot (r.slot + q))

-- what is kept determines the word that is sent in the next cell, as long as the number of accepted words does not go
-- back
abbrev pub RecentDecides : Type 0
RecentDecides =
    (earlier : List AnsweredCell) (source : ℕ) (r : Recent) (slot count : ℕ) (hold : Option ℕ) (q : ℕ) (word : Option ℕ)
    → Recalls earlier source r → r.count ≤ count
    → sent_word earlier slot source hold q (count, word) ≡ (if may_send r slot count hold q then word else None)

-- after a cell with a word of the source that send is kept, as long as neither the number of accepted words nor the slot goes back
abbrev pub RecentCountsSends : Type 0
RecentCountsSends =
    (earlier : List AnsweredCell) (source : ℕ) (r : Recent) (slot count word : ℕ) → Recalls earlier source r → r.count ≤ count → r.slot ≤ slot
    → Recalls (earlier ++ record { slot = slot; source = source; count = count; word = Some word } ∷ []) source (sent_again r slot count)

-- a cell without a word of the source changes nothing of what is kept
abbrev pub RecentPassesOtherCells : Type 0
RecentPassesOtherCells =
    (earlier : List AnsweredCell) (source : ℕ) (r : Recent) (c : AnsweredCell) → Recalls earlier source r → has_sent source c ≡ false
    → Recalls (earlier ++ c ∷ []) source r
