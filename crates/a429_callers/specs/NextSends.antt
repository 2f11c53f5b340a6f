-- When a source is sent next after its group went on to another plan (profile: docs/RULES.md, How late a word goes out). A place is how many events
-- come before it.
use Rattle.std.specs.Prelude.{◌≡◌, ◌+◌, ◌<◌, ◌≤◌, ℕ, false, Some, slice_get}
use Rattle.a429_slots.specs.Tables.{Placed, SlotTable, outputs_of}
use Rattle.a429_core.specs.Histories.{GroupHistory, IsCellAt, current_at}
use Rattle.a429_core.specs.Spaced.{CellIsAnswered, is_held_at}
use Rattle.a429_core.specs.Latency.{Changes, IsPlannedHistory, move_of, next_slot_on}
use Rattle.a429_documents.specs.Diff.{gap_of}

-- at place j the group sends a word of the source in this slot; after it and before place c it answers no cell of the source
pub record IsLastSend (C : ℕ) (E : GroupHistory) (j c source : ℕ) (x : Placed) (slot : ℕ) : Type 0 where
  pub word : ℕ
  pub sent : CellIsAnswered C E j x slot (Some word)
  pub same : x.source ≡ source
  pub last : (a : ℕ) (z : Placed) (s : ℕ) → j < a → a < c → IsCellAt E a z s → z.source ≡ source → ⊥

-- the slot table has this output of the source
pub record HasThisOutput (t : SlotTable) (source : ℕ) (y : Placed) : Type 0 where
  pub number : ℕ
  pub there : slice_get (outputs_of t) number ≡ Some y
  pub same : y.source ≡ source

-- from place i on and before place k no hold empties a cell of the source
abbrev pub NoHoldEmpties : ℕ → GroupHistory → ℕ → ℕ → ℕ → Type 0
NoHoldEmpties C E i k source = (a : ℕ) (z : Placed) (s : ℕ) → i ≤ a → a < k → IsCellAt E a z s → z.source ≡ source → is_held_at C E a z ≡ false

-- after place j and before place k, the group sends a word of the source in this slot, and none of it in between
pub record HasNextSend (C : ℕ) (E : GroupHistory) (j k source slot : ℕ) : Type 0 where
  pub place : ℕ
  pub after : j < place
  pub before : place < k
  pub output : Placed
  pub same : output.source ≡ source
  pub word : ℕ
  pub sent : CellIsAnswered C E place output slot (Some word)
  pub none : (a : ℕ) (z : Placed) (s w : ℕ) → j < a → a < place → CellIsAnswered C E a z s (Some w) → z.source ≡ source → ⊥

-- A group goes from a plan with output x of a source to one with output y of it. The last cell by the first plan was
-- sent, and no hold empties a cell by the second. Then the source is sent next `gap_of x y` slots later, once that slot
-- has passed on the bus of y.
abbrev pub NextSendIsAGapLater : Type 0
NextSendIsAGapLater =
    (C : ℕ) (E : GroupHistory) (j c k source : ℕ) (x y : Placed) (slot : ℕ)
    → IsPlannedHistory E → Changes E j k source (move_of c x.place y.place) → HasThisOutput (current_at E (c + 1)).table source y
    → IsLastSend C E j c source x slot → NoHoldEmpties C E (c + 1) k source → slot + gap_of x y < next_slot_on E k y.place.bus
    → HasNextSend C E j k source (slot + gap_of x y)
