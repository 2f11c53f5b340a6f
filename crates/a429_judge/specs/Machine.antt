-- What a right box sends at an output by one plan, slot by slot, and how its sends are recorded (profile: docs/RULES.md, Sending).
use Rattle.std.specs.Prelude.{◌≡◌, ◌<◌, ◌≤◌, ◌==◌, ◌||◌, ◌+◌, ◌-◌, ◌*◌, ◌++◌, ◌∷◌, ℕ, zero, suc, Bool, List, [], Option, count_by, false, if◌then◌else◌, length, nat_le, nat_lt, slice_index_or}
use Rattle.std.specs.List.{position_or_len}
use Rattle.std.specs.List.Sorted.{IsNonDecreasingBy}
use Rattle.std.specs.Option.{option_map_or}
use Rattle.a429_judge.specs.declared.duties.Duty.{Duty}
use Rattle.a429_judge.specs.declared.facts.Facts.{Facts}
use Rattle.a429_judge.specs.declared.facts.Mark.{Mark}
use Rattle.a429_judge.specs.declared.facts.Span.{Span}
use Rattle.a429_judge.specs.Judgements.{accepted_by, found_at, sent_by}
use Rattle.a429_judge.specs.Judging.{mark_at, time_at}
use Rattle.a429_judge.specs.Laws.{AreNear, ArePlanned, AreSlots, IsPieceOf, length_of}
use Rattle.a429_judge.specs.Recordings.{Recording, span_of}

-- ---- sends by slots

-- a send: the number of its slot, and how many words the source had accepted when the slot began. It sends the last of them.
pub record SlotSend : Type 0 where
  pub slot : ℕ
  pub count : ℕ

-- the accepted word of this number was sent as often as it may be
abbrev pub is_used_up : Option ℕ → List SlotSend → ℕ → Bool
is_used_up hold earlier count = option_map_or (λ most. nat_le most (count_by (λ c. c.count == count) earlier)) hold false

-- the send of a slot, if no word was accepted or the last one may not be sent again none
abbrev pub slot_send : Option ℕ → List SlotSend → ℕ → ℕ → List SlotSend
slot_send hold earlier n count = if count == 0 || is_used_up hold earlier count then [] else record { slot = n; count = count } ∷ []

-- the sends of the first slots, if this many words were accepted when each began
abbrev pub slot_sends : Option ℕ → (ℕ → ℕ) → ℕ → List SlotSend
slot_sends hold known zero = []
slot_sends hold known (suc n) = slot_sends hold known n ++ slot_send hold (slot_sends hold known n) n (known n)

-- ---- moments, in units of 1 / (rate * finer) microseconds, however fine

-- how many words were accepted by a moment, if they were accepted at these
abbrev pub known_by : List ℕ → ℕ → ℕ
known_by moments now = position_or_len (λ m. nat_lt now m) moments

abbrev pub moment_at : List ℕ → ℕ → ℕ
moment_at moments j = slice_index_or moments j 0

-- what is read past the end of a list of sends
abbrev pub no_send : SlotSend
no_send = record { slot = 0; count = 0 }

abbrev pub send_at : List SlotSend → ℕ → SlotSend
send_at sends k = slice_index_or sends k no_send

-- the sends of the first slots of an output, if slot n begins at `begin n`
abbrev pub box_sends : Facts → (ℕ → ℕ) → List ℕ → ℕ → List SlotSend
box_sends f begin moments slots = slot_sends f.hold (λ n. known_by moments (begin n)) slots

-- Logs have a piece of what a box accepts and sends. Its slots and the times of the logs may be wrong as `AreNear` says. A send is recorded
-- `delay` after its slot begins, up to a slot.
pub record IsRecordOf (f : Facts) (span : Span) (accepted sends : List Mark) : Type 0 where
  pub finer : ℕ
  pub wrong : ℕ
  pub drift : ℕ
  pub near : AreNear f finer wrong drift
  -- the words that its source accepted, and when
  pub words : List Mark
  pub moments : List ℕ
  pub timed : length moments ≡ length words
  pub rise : IsNonDecreasingBy (λ (m : ℕ). m) moments
  pub piece : IsPieceOf span.heard (f.rate * finer) wrong words (moment_at moments) accepted
  pub begin : ℕ → ℕ
  pub slots : AreSlots f finer drift begin
  pub delay : ℕ
  pub short : delay ≤ 36000000 * finer
  -- how many slots the box went through, and how many sends are before the log
  pub passed : ℕ
  pub skipped : ℕ
  pub enough : skipped + length sends ≤ length (box_sends f begin moments passed)
  -- each send of the log is that of the box
  pub same : (k : ℕ) → k < length sends → (mark_at sends k).raw ≡ (mark_at words ((send_at (box_sends f begin moments passed) (skipped + k)).count - 1)).raw
  pub early : (k : ℕ) → k < length sends
      → begin (send_at (box_sends f begin moments passed) (skipped + k)).slot + delay ≤ time_at sends k * (f.rate * finer) + wrong
  pub late : (k : ℕ) → k < length sends
      → time_at sends k * (f.rate * finer) ≤ begin (send_at (box_sends f begin moments passed) (skipped + k)).slot + delay + wrong
  -- the log of what was sent has the sends of all slots from this one on; those before may be before the first word of the group
  pub from : ℕ
  pub earlier : (k : ℕ) → k < skipped → (send_at (box_sends f begin moments passed) k).slot < from
  pub before : (n : ℕ) → n < from → begin n + delay ≤ span.first * (f.rate * finer) + wrong
  pub opens : begin from + delay ≤ span.first * (f.rate * finer) + wrong + length_of f finer + drift
  -- the record of a send after those of the log, and of a slot after those of the box, need not be before the end of the logs
  pub after : (k : ℕ) → skipped + length sends ≤ k → k < length (box_sends f begin moments passed)
      → span.last * (f.rate * finer) ≤ begin (send_at (box_sends f begin moments passed) k).slot + delay + wrong
  pub ends : span.last * (f.rate * finer) ≤ begin passed + delay + wrong

-- nothing is found at an output of a box that sends so
abbrev pub RecordedBoxHasNoFinding : Type 0
RecordedBoxHasNoFinding =
    (duties : List Duty) (d : Duty) (r : Recording) → ArePlanned d.facts
    → IsRecordOf d.facts (span_of d.group r) (accepted_by d r) (sent_by d r) → found_at duties d r ≡ []
