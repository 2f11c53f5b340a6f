-- What the answers of a history mean: which cells of a frame are answered, and which words are in them (profile: docs/RULES.md, Sending).
use Rattle.std.specs.Prelude.{◌≡◌, ◌↔◌, ◌⊎◌, ◌+◌, ◌<◌, ◌++◌, ◌∷◌, [], ℕ, List, Some, None, IsTrue, map, filter, take, replicate, count_by, flat_map}
use Rattle.std.specs.List.{AllByRecursion, range_with_len, zip}
use Rattle.a429_equipment.specs.Arrivals.{SourcesAreApart}
use Rattle.a429_slots.specs.Tables.{SlotTable, cells_of, frame_of, buses_of, source_at}
use Rattle.a429_slots.specs.Events.{Event, Arrive, Cell, Frame}
use Rattle.a429_slots.specs.History.{Opening, OpensWith, Current, accepted_by, current, is_cell, newest_number}
use Rattle.a429_slots.specs.TakenFrames.{BeginsFrame, NoneTaken, is_taken_after}
use Rattle.a429_slots.specs.declared.answers.Answer.{Answer}
use Rattle.a429_slots.specs.declared.answers.Answer.TheVariants.{Accepted, Sent, Changed, Published, Refused}
use Rattle.a429_slots.specs.declared.answers.Refusal.TheVariants.{FrameEnd}
use Rattle.a429_slots.specs.Answers.{answer, answers}

-- ---- words

-- of events that come after E none is answered that the source accepted it
abbrev pub AcceptsNone : ℕ → Opening → List Event → List Event → ℕ → Type 0
AcceptsNone C o E events source = AllByRecursion (λ a. a ≡ Accepted source → ⊥) (answers C o E events)

-- the word is the latest that the source accepted: it came in, that was answered Accepted, and of no later word was it
pub record IsLatest (C : ℕ) (o : Opening) (E : List Event) (source word : ℕ) : Type 0 where
  pub before : List Event
  pub receiver : ℕ
  pub after : List Event
  pub split : E ≡ before ++ Arrive receiver word ∷ after
  pub accepted : answer C o before (Arrive receiver word) ≡ Accepted source
  pub none_later : AcceptsNone C o (before ++ Arrive receiver word ∷ []) after source

-- in the group's frame an output is on this bus in this slot, and the word is the latest of its source
pub record CarriesLatest (C : ℕ) (o : Opening) (E : List Event) (f : Current) (bus slot word : ℕ) : Type 0 where
  pub slot_in_frame : ℕ
  pub source : ℕ
  pub counted : slot ≡ f.first + slot_in_frame
  pub on_a_bus : bus < buses_of f.table
  pub in_frame : slot_in_frame < frame_of f.table
  pub stands : source_at f.table bus slot_in_frame ≡ Some source
  pub latest : IsLatest C o E source word

-- ---- cells

-- the answers to the cells that the group asks for among events that come after E
abbrev pub cell_answers : ℕ → Opening → ℕ → List Event → List Event → List Answer
cell_answers C o g E events = map (λ x. x.1) (filter (λ x. is_cell g x.0) (zip events (answers C o E events)))

-- the cells of a frame, slot by slot, in a slot bus by bus: the bus and the slot of each
abbrev pub cells_in_order : Current → List (ℕ × ℕ)
cells_in_order f = flat_map (λ slot. map (λ bus. (bus, f.first + slot)) (range_with_len 0 (buses_of f.table))) (range_with_len 0 (frame_of f.table))

-- what a cell is answered, the word set aside
abbrev pub cell_sent : ℕ × ℕ → Answer
cell_sent c = Sent c.0 c.1 None

abbrev pub without_word : Answer → Answer
without_word (Sent bus slot word) = Sent bus slot None
without_word (Accepted source) = Accepted source
without_word (Changed number) = Changed number
without_word (Published number) = Published number
without_word (Refused refusal) = Refused refusal

-- n cells asked for from the frame's beginning on: its cells in order, each once, and after the last one FrameEnd
abbrev pub in_turn : Current → ℕ → List Answer
in_turn f n = take n (map cell_sent (cells_in_order f) ++ replicate n (Refused FrameEnd))

-- the event is an arrival that is answered Accepted, and its word comes after those that the source had accepted
pub record AddsWord (C : ℕ) (o : Opening) (E : List Event) (source : ℕ) (e : Event) : Type 0 where
  pub receiver : ℕ
  pub word : ℕ
  pub event : e ≡ Arrive receiver word
  pub answered : answer C o E e ≡ Accepted source
  pub more : accepted_by C o source (E ++ e ∷ []) ≡ accepted_by C o source E ++ word ∷ []

-- it is not answered so, and the source has accepted what it had
pub record AddsNone (C : ℕ) (o : Opening) (E : List Event) (source : ℕ) (e : Event) : Type 0 where
  pub other : ¬ (answer C o E e ≡ Accepted source)
  pub same : accepted_by C o source (E ++ e ∷ []) ≡ accepted_by C o source E

-- ---- laws

-- a source accepts exactly the words of the arrivals that are answered so, one by one
abbrev pub WordsAreAcceptedOneByOne : Type 0
WordsAreAcceptedOneByOne =
    (C : ℕ) (o : Opening) (E : List Event) (source : ℕ) (e : Event) → SourcesAreApart o.proposal.station.sources → AddsWord C o E source e ⊎ AddsNone C o E source e

-- a word that is sent is the latest that was accepted for the source of the output in its slot
abbrev pub SentWordsWereAccepted : Type 0
SentWordsWereAccepted =
    (C : ℕ) (o : Opening) (E : List Event) (g : ℕ) (p : SlotTable) (bus slot word : ℕ)
    → SourcesAreApart o.proposal.station.sources → OpensWith o g p
    → answer C o E (Cell g) ≡ Sent bus slot (Some word) → CarriesLatest C o E (current o g p E) bus slot word

-- from the beginning of a frame, and as long as none is taken, its cells are answered in order, apart from their words
abbrev pub CellsAreAnsweredInTurn : Type 0
CellsAreAnsweredInTurn =
    (C : ℕ) (o : Opening) (g : ℕ) (p : SlotTable) (E stretch : List Event)
    → OpensWith o g p → BeginsFrame o g p E → NoneTaken o g p E stretch
    → map without_word (cell_answers C o g E stretch) ≡ in_turn (current o g p E) (count_by (is_cell g) stretch)

-- if a Frame is taken, all cells of the frame before it were answered
abbrev pub TakenFramesFollowAllCells : Type 0
TakenFramesFollowAllCells =
    (C : ℕ) (o : Opening) (g : ℕ) (p : SlotTable) (E stretch : List Event) (e : Event)
    → OpensWith o g p → BeginsFrame o g p E → NoneTaken o g p E stretch → IsTrue (is_taken_after o g p (E ++ stretch) e)
    → take (cells_of (current o g p E).table) (map without_word (cell_answers C o g E stretch)) ≡ map cell_sent (cells_in_order (current o g p E))

-- a Frame is answered with the number of the newest plan if and only if it is taken
abbrev pub TakenFramesAreAnswered : Type 0
TakenFramesAreAnswered =
    (C : ℕ) (o : Opening) (E : List Event) (g : ℕ) (p : SlotTable) → OpensWith o g p
    → (answer C o E (Frame g) ≡ Changed (newest_number o E)) ↔ IsTrue (is_taken_after o g p E (Frame g))
