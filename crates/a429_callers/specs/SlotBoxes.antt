-- What a group sends of an output while its opening plan is in force: slot by slot what a right box sends (`a429_judge`; profile: docs/RULES.md,
-- Sending). A place is how many events come before it.
use Rattle.std.specs.Prelude.{◌≡◌, ◌+◌, ◌-◌, ◌*◌, ◌<◌, ◌≤◌, ◌∷◌, ◌++◌, [], ℕ, List, Option, Some, None, filter, length, map, slice_get, take}
use Rattle.a429_judge.specs.Machine.{SlotSend, slot_send, slot_sends}
use Rattle.a429_slots.specs.Events.{Event, Publish}
use Rattle.a429_slots.specs.Proposed.{Proposed}
use Rattle.a429_slots.specs.History.{AnsweredCell, accepted_by, answered_cells, has_sent}
use Rattle.a429_slots.specs.Tables.{Placed, outputs_of}
use Rattle.a429_core.specs.Histories.{GroupHistory, HasOpeningTable, IsCellAt, number_of_plan}
use Rattle.a429_core.specs.Latency.{IsPlannedHistory, next_slot_on, period_of}
use Rattle.a429_core.specs.Spaced.{CellIsAnswered}

-- ---- the slots of an output

-- slot n of an output, in slots of its group: the first is at its offset, and each other is a period after the one before
abbrev pub slot_of : GroupHistory → Placed → ℕ → ℕ
slot_of E x n = E.opening.first + x.place.offset + n * period_of x.place

-- The group is asked for the first slots of the output in order, slot n at `place n`: for all of them that come before the next slot on the
-- output's bus. It is asked for no other cell of the source.
pub record AsksSlots (E : GroupHistory) (x : Placed) : Type 0 where
  pub slots : ℕ
  pub place : ℕ → ℕ
  pub in_order : (m n : ℕ) → m < n → n < slots → place m < place n
  pub cell : (n : ℕ) → n < slots → IsCellAt E (place n) x (slot_of E x n)
  pub all : (k : ℕ) (y : Placed) (s : ℕ) → IsCellAt E k y s → y.source ≡ x.source → (n : ℕ) × (n < slots) × (place n ≡ k)
  pub passed : next_slot_on E (length E.events) x.place.bus ≤ slot_of E x slots

-- ---- the words that are sent in them

-- how many words the output's source had accepted before place k
abbrev pub known_at : ℕ → GroupHistory → Placed → ℕ → ℕ
known_at C E x k = length (accepted_by C E.opening x.source (take k E.events))

-- the accepted word of this number, counted from 1
abbrev pub word_at : ℕ → GroupHistory → Placed → ℕ → Option ℕ
word_at C E x count = slice_get (accepted_by C E.opening x.source E.events) (count - 1)

-- what a right box sends in the first slots, if slot n is asked for at `place n`
abbrev pub right_sends : ℕ → GroupHistory → Placed → (ℕ → ℕ) → ℕ → List SlotSend
right_sends C E x place slots = slot_sends x.limits.hold (λ n. known_at C E x (place n)) slots

-- the word of the first of these sends, if there is one
abbrev pub word_of : ℕ → GroupHistory → Placed → List SlotSend → Option ℕ
word_of C E x [] = None
word_of C E x (s ∷ rest) = word_at C E x s.count

-- the word that a right box sends in slot n, if it sends one
abbrev pub right_word : ℕ → GroupHistory → Placed → (ℕ → ℕ) → ℕ → Option ℕ
right_word C E x place n = word_of C E x (slot_send x.limits.hold (right_sends C E x place n) n (known_at C E x (place n)))

-- the answered cell that such a send is
abbrev pub cell_of : ℕ → GroupHistory → Placed → SlotSend → AnsweredCell
cell_of C E x s = record { slot = slot_of E x s.slot; source = x.source; count = s.count; word = word_at C E x s.count }

-- The group answers each slot of the output with the word that a right box sends in it, or with none. So its cells that have a word are, in
-- order, the sends of a right box.
pub record SendsAsRightBox (C : ℕ) (E : GroupHistory) (x : Placed) : Type 0 where
  pub asks : AsksSlots E x
  pub answers : (n : ℕ) → n < asks.slots → CellIsAnswered C E (asks.place n) x (slot_of E x n) (right_word C E x asks.place n)
  pub sends : filter (has_sent x.source) (answered_cells C E.opening E.group E.table E.events) ≡ map (cell_of C E x) (right_sends C E x asks.place asks.slots)

-- ---- laws

-- no newer plan has come into force
abbrev pub KeepsOpeningPlan : GroupHistory → Type 0
KeepsOpeningPlan E = number_of_plan E (length E.events) ≡ E.opening.proposal.plan.number

-- no plan is published
abbrev pub PublishesNone : GroupHistory → Type 0
PublishesNone E = (before after : List Event) (q : Proposed) → E.events ≡ before ++ Publish q ∷ after → ⊥

-- then the opening plan stays in force
abbrev pub OpeningPlanStays : Type 0
OpeningPlanStays = (E : GroupHistory) → HasOpeningTable E → PublishesNone E → KeepsOpeningPlan E

-- the group sends so of each output of its slot table
abbrev pub GroupsSendAsRightBoxes : Type 0
GroupsSendAsRightBoxes =
    (C : ℕ) (E : GroupHistory) (number : ℕ) (x : Placed) → IsPlannedHistory E → KeepsOpeningPlan E
    → slice_get (outputs_of E.table) number ≡ Some x → SendsAsRightBox C E x
