-- How long an accepted word waits until it goes out, in slots of its group: its latency (profile: docs/RULES.md, How late a word goes out). A place
-- is how many events come before it.
use Rattle.std.specs.Prelude.{◌≡◌, ◌⊎◌, ◌+◌, ◌*◌, ◌<◌, ◌≤◌, ◌/◌, ◌%◌, ◌^◌, ℕ, false, IsTrue, List, Some, None, if◌then◌else◌, nat_lt, length, take, slice_get}
use Rattle.a429_equipment.specs.Arrivals.{SourcesAreApart}
use Rattle.a429_slots.specs.declared.group_plan.SlotPlace.{SlotPlace}
use Rattle.a429_slots.specs.Tables.{Placed, SlotTable, outputs_of, buses_of}
use Rattle.a429_slots.specs.Events.{Event, Arrive, Cell}
use Rattle.a429_slots.specs.History.{Opening, cell_due}
use Rattle.a429_slots.specs.TakenFrames.{is_taken_at}
use Rattle.a429_slots.specs.FrameStates.{FrameState}
use Rattle.a429_slots.specs.GoingOn.{stands_after}
use Rattle.a429_slots.specs.declared.answers.Answer.TheVariants.{Accepted}
use Rattle.a429_slots.specs.Answers.{answer}
use Rattle.a429_core.specs.Histories.{GroupHistory, HasOpeningTable, HasOwnPlans, IsCellAt, current_at, number_of_plan}
use Rattle.a429_core.specs.Sends.{IsLatest}
use Rattle.a429_core.specs.Spaced.{CellIsAnswered, IsFirstCell, is_held_at, last_word_at}

-- ---- slots that pass

-- the slot of a group's next cell on a bus: the slot that the group is in, or the one after it if that slot's cell on
-- this bus was sent
abbrev pub next_on : FrameState → ℕ → ℕ
next_on s bus = s.first + (s.sent / buses_of s.table + (if nat_lt bus (s.sent % buses_of s.table) then 1 else 0))

-- before place k
abbrev pub next_slot_on : GroupHistory → ℕ → ℕ → ℕ
next_slot_on E k bus = next_on (stands_after E.opening E.group E.table (take k E.events)) bus

-- from place i on and before place k, the group answers its cell on this bus in this slot
pub record AnswersOn (E : GroupHistory) (i k bus slot : ℕ) : Type 0 where
  pub place : ℕ
  pub from : i ≤ place
  pub before : place < k
  pub asked : slice_get E.events place ≡ Some (Cell E.group)
  pub in_frame : ℕ
  pub due : cell_due E.group (current_at E place) ≡ Some (bus, in_frame)
  pub counted : slot ≡ (current_at E place).first + in_frame

-- from place i on and before place k, each slot table in force has the bus
abbrev pub KeepsBus : GroupHistory → ℕ → ℕ → ℕ → Type 0
KeepsBus E i k bus = (j : ℕ) → i ≤ j → j < k → bus < buses_of (current_at E j).table

-- ---- outputs

-- how many slots pass from one cell of an output at this place to its next
abbrev pub period_of : SlotPlace → ℕ
period_of at = 2 ^ at.period

-- the slot table has an output of this source at this place
pub record HasOutput (t : SlotTable) (source : ℕ) (at : SlotPlace) : Type 0 where
  pub number : ℕ
  pub output : Placed
  pub there : slice_get (outputs_of t) number ≡ Some output
  pub of_source : output.source ≡ source
  pub at_place : output.place ≡ at

-- The output stays: from place i on and before place k, each plan in force has an output of this source at this place. The limits of its sends
-- may change.
abbrev pub KeepsOutput : GroupHistory → ℕ → ℕ → ℕ → SlotPlace → Type 0
KeepsOutput E i k source at = (j : ℕ) → i ≤ j → j < k → HasOutput (current_at E j).table source at

-- from place i on and up to place k, each plan in force has an output of this source whose period has no more than this many slots
pub record HasOutputWithin (t : SlotTable) (source most : ℕ) : Type 0 where
  pub at : SlotPlace
  pub output : HasOutput t source at
  pub short : period_of at ≤ most

abbrev pub KeepsSource : GroupHistory → ℕ → ℕ → ℕ → ℕ → Type 0
KeepsSource E i k source most = (j : ℕ) → i ≤ j → j ≤ k → HasOutputWithin (current_at E j).table source most

-- an output of a source by a plan that is in force from place i on and before place k
abbrev pub EachOutput : GroupHistory → ℕ → ℕ → ℕ → (Placed → Type 0) → Type 0
EachOutput E i k source Is =
    (j : ℕ) → i ≤ j → j < k → (n : ℕ) (x : Placed) → slice_get (outputs_of (current_at E j).table) n ≡ Some x → x.source ≡ source → Is x

-- the output may send an accepted word once at least, and its spacing has no more than q slots
pub record MaySend (q : ℕ) (x : Placed) : Type 0 where
  pub hold : (hold : ℕ) → x.limits.hold ≡ Some hold → 0 < hold
  pub spacing : x.limits.spacing ≤ q

-- the output has no hold, and its spacing is at most q slots
pub record IsUnheld (q : ℕ) (x : Placed) : Type 0 where
  pub hold : x.limits.hold ≡ None
  pub spacing : x.limits.spacing ≤ q

-- from place i to place k, n slots pass on the output's bus
abbrev pub Passes : GroupHistory → ℕ → ℕ → SlotPlace → ℕ → Type 0
Passes E i k at n = next_slot_on E i at.bus + n ≤ next_slot_on E k at.bus

-- from place i on and before place k, in a slot before `end`, the group answers a cell of the source
pub record HasCell (E : GroupHistory) (i k source end : ℕ) : Type 0 where
  pub place : ℕ
  pub from : i ≤ place
  pub before : place < k
  pub output : Placed
  pub same : output.source ≡ source
  pub slot : ℕ
  pub cell : IsCellAt E place output slot
  pub high : slot < end

-- after place j and before place k, the group answers a cell of the source in this slot, and none of it in between
pub record HasNextCell (E : GroupHistory) (j k source slot : ℕ) : Type 0 where
  pub place : ℕ
  pub after : j < place
  pub before : place < k
  pub output : Placed
  pub same : output.source ≡ source
  pub cell : IsCellAt E place output slot
  pub none : (a : ℕ) (x : Placed) (s : ℕ) → j < a → a < place → IsCellAt E a x s → x.source ≡ source → ⊥

-- ---- words

-- at this place a word comes in that the source accepts
pub record IsAcceptedAt (C : ℕ) (o : Opening) (E : List Event) (k source : ℕ) : Type 0 where
  pub receiver : ℕ
  pub word : ℕ
  pub came : slice_get E k ≡ Some (Arrive receiver word)
  pub accepted : answer C o (take k E) (Arrive receiver word) ≡ Accepted source

-- the latest word that the source accepted is this one, and it came in at place i or later
pub record IsFresh (C : ℕ) (o : Opening) (E : List Event) (source word i : ℕ) : Type 0 where
  pub latest : IsLatest C o E source word
  pub since : i ≤ length latest.before

-- from place i on and before place k, in a slot before `end`, the group sends a word of the source: the latest that the source accepted, which
-- came in at place i or later
pub record GoesOut (C : ℕ) (E : GroupHistory) (i k source end : ℕ) : Type 0 where
  pub cell : HasCell E i k source end
  pub word : ℕ
  pub sent : CellIsAnswered C E cell.place cell.output cell.slot (Some word)
  pub fresh : IsFresh C E.opening (take cell.place E.events) source word i

-- from place i on and before place k, in a slot before `end`, the group sends a word of the source
pub record SendsOne (C : ℕ) (E : GroupHistory) (i k source end : ℕ) : Type 0 where
  pub cell : HasCell E i k source end
  pub word : ℕ
  pub sent : CellIsAnswered C E cell.place cell.output cell.slot (Some word)

-- the cell that comes is without a word, as a word of the source was sent within the spacing: it is the first of its source since the
-- plan came into force
pub record IsEmptiedFirst (C : ℕ) (E : GroupHistory) (i k source end : ℕ) : Type 0 where
  pub cell : HasCell E i k source end
  pub empty : CellIsAnswered C E cell.place cell.output cell.slot None
  pub only : IsFirstCell C E cell.place cell.output cell.slot

-- times of the places of a history, if each slot lasts as long as any other and slot n begins n slots after time 0
pub record Clock : Type 0 where
  pub time : ℕ → ℕ
  pub slot_time : ℕ

-- time does not go back, and the group is asked for no cell before its slot begins
pub record KeepsTime (E : GroupHistory) (clock : Clock) : Type 0 where
  pub onward : (j k : ℕ) → j ≤ k → clock.time j ≤ clock.time k
  pub begun : (i k bus slot : ℕ) (cell : AnswersOn E i k bus slot) → slot * clock.slot_time ≤ clock.time cell.place

-- a word of a source, with the stretch in which it goes out: from a place on, before another, and in a slot before `end`
pub record Wait : Type 0 where
  pub source : ℕ
  pub from : ℕ
  pub to : ℕ
  pub end : ℕ

abbrev pub wait_of : ℕ → ℕ → ℕ → ℕ → Wait
wait_of source from to end = record { source = source; from = from; to = to; end = end }

-- it goes out, and the slot of its cell ends no more than this time after its first place
pub record GoesOutWithin (C : ℕ) (E : GroupHistory) (wait : Wait) (clock : Clock) (most : ℕ) : Type 0 where
  pub out : GoesOut C E wait.from wait.to wait.source wait.end
  pub soon : (out.cell.slot + 1) * clock.slot_time ≤ clock.time wait.from + most

-- ---- what the laws suppose

-- a history of a group: its station's sources are apart, and each plan is that of its own table
pub record IsPlannedHistory (E : GroupHistory) : Type 0 where
  pub apart : SourcesAreApart E.opening.proposal.station.sources
  pub opens : HasOpeningTable E
  pub own : HasOwnPlans E

-- the source accepts a word at place i, and the history goes on to place k
pub record IsAcceptedBefore (C : ℕ) (o : Opening) (E : List Event) (i k source : ℕ) : Type 0 where
  pub word : IsAcceptedAt C o E i source
  pub after : i ≤ k
  pub few : k ≤ length E

-- a move of a source's output: the place of the Frame by which it comes about, and the output's place before and after
pub record Move : Type 0 where
  pub place : ℕ
  pub old : SlotPlace
  pub new : SlotPlace

abbrev pub move_of : ℕ → SlotPlace → SlotPlace → Move
move_of place old new = record { place = place; old = old; new = new }

-- from place j on the source's output stays, then a Frame is taken, and from then on up to place k its output is at another place
pub record Changes (E : GroupHistory) (j k source : ℕ) (move : Move) : Type 0 where
  pub from : j ≤ move.place
  pub before : move.place < k
  pub few : k ≤ length E.events
  pub stays : KeepsOutput E j (move.place + 1) source move.old
  pub taken : IsTrue (is_taken_at E.opening E.group E.table E.events move.place)
  pub goes_on : KeepsOutput E (move.place + 1) k source move.new

-- From place i up to place k each plan in force has an output of the source, whose period is at most `most` slots.
-- Between them n slots pass, from the next slot of the first plan's output to the next slot of the last plan's output.
pub record ChangesOften (E : GroupHistory) (i k source most n : ℕ) : Type 0 where
  pub after : i ≤ k
  pub few : k ≤ length E.events
  pub keeps : KeepsSource E i k source most
  pub first : HasOutputWithin (current_at E i).table source most
  pub last : HasOutputWithin (current_at E k).table source most
  pub passes : next_slot_on E i first.at.bus + n ≤ next_slot_on E k last.at.bus

-- ---- laws of slots and cells

-- a group answers its cells on a bus slot by slot, and leaves none out
abbrev pub SlotsPassOneByOne : Type 0
SlotsPassOneByOne =
    (E : GroupHistory) (i k bus slot : ℕ) → i ≤ k → k ≤ length E.events → KeepsBus E i k bus
    → next_slot_on E i bus ≤ slot → slot < next_slot_on E k bus → AnswersOn E i k bus slot

-- as long as one plan is in force its outputs stay
abbrev pub OnePlanKeepsOutputs : Type 0
OnePlanKeepsOutputs =
    (E : GroupHistory) (i k source : ℕ) (at : SlotPlace) → HasOpeningTable E → i ≤ k → k ≤ length E.events
    → number_of_plan E i ≡ number_of_plan E k → HasOutput (current_at E i).table source at → KeepsOutput E i k source at

-- an output that stays has a cell in each period of slots, in any frames and under any plans
abbrev pub OutputsComeRound : Type 0
OutputsComeRound =
    (E : GroupHistory) (i k source : ℕ) (at : SlotPlace) → HasOpeningTable E → HasOwnPlans E → i ≤ k → k ≤ length E.events
    → KeepsOutput E i k source at → Passes E i k at (period_of at)
    → HasCell E i k source (next_slot_on E i at.bus + period_of at)

-- as long as it stays, its next cell is exactly a period later, even if the plan changes
abbrev pub OutputsRecurExactly : Type 0
OutputsRecurExactly =
    (E : GroupHistory) (j k source : ℕ) (at : SlotPlace) (x : Placed) (slot : ℕ)
    → HasOpeningTable E → HasOwnPlans E → j < k → k ≤ length E.events → KeepsOutput E j k source at
    → IsCellAt E j x slot → x.source ≡ source → slot + period_of at < next_slot_on E k at.bus
    → HasNextCell E j k source (slot + period_of at)

-- and from its second cell on each has the last word that was accepted, unless that is held
abbrev pub StayingCellsAreFull : Type 0
StayingCellsAreFull =
    (C : ℕ) (E : GroupHistory) (j k source : ℕ) (at : SlotPlace) (x now : Placed) (s t : ℕ)
    → IsPlannedHistory E → j < k → KeepsOutput E j (k + 1) source at
    → IsCellAt E j x s → x.source ≡ source → IsCellAt E k now t → now.source ≡ source
    → is_held_at C E k now ≡ false → CellIsAnswered C E k now t (last_word_at C E k now)

-- if one plan follows another, and both have an output of one source, its cells go on within fewer slots than both
-- periods together
abbrev pub CellsRecurAcrossAChange : Type 0
CellsRecurAcrossAChange =
    (E : GroupHistory) (j c k source : ℕ) (old new : SlotPlace) (x : Placed) (slot : ℕ)
    → HasOpeningTable E → HasOwnPlans E → Changes E j k source (move_of c old new) → IsCellAt E j x slot → x.source ≡ source
    → slot + (period_of old + period_of new) ≤ next_slot_on E k new.bus
    → HasCell E (j + 1) k source (slot + (period_of old + period_of new))

-- any plans follow one another, each with an output of the source: a cell comes within fewer slots than twice the
-- longest period
abbrev pub CellsRecurAcrossChanges : Type 0
CellsRecurAcrossChanges =
    (E : GroupHistory) (i k source most n : ℕ)
    → HasOpeningTable E → HasOwnPlans E → (P : ChangesOften E i k source most n) → 2 * most ≤ n + 1
    → HasCell E i k source (next_slot_on E i P.first.at.bus + n)

-- ---- laws of words

-- A word that is accepted goes out, it or a later one of its source, in one period of slots of the source's output; if not, then a word of
-- the source went out within the spacing before, and this cell is the first of the source since the plan came into force.
abbrev pub WordsGoOutOrAreFirst : Type 0
WordsGoOutOrAreFirst =
    (C : ℕ) (E : GroupHistory) (i k source : ℕ) (at : SlotPlace) (q : ℕ)
    → IsPlannedHistory E → IsAcceptedBefore C E.opening E.events i k source → KeepsOutput E i k source at
    → EachOutput E i k source (MaySend q) → Passes E i k at (period_of at)
    → GoesOut C E i k source (next_slot_on E i at.bus + period_of at)
    ⊎ IsEmptiedFirst C E i k source (next_slot_on E i at.bus + period_of at)

-- The output had stayed for a period before place i. Then a word that was accepted by then goes out, or a later one of
-- its source, before one period of slots has passed from place i on.
abbrev pub AcceptedWordsGoOutInTime : Type 0
AcceptedWordsGoOutInTime =
    (C : ℕ) (E : GroupHistory) (h a i k source : ℕ) (at : SlotPlace) (q : ℕ)
    → IsPlannedHistory E → IsAcceptedBefore C E.opening E.events a k source → a ≤ i → i ≤ k → h ≤ i → KeepsOutput E h k source at
    → EachOutput E i k source (MaySend q) → Passes E h i at (period_of at) → Passes E i k at (period_of at)
    → GoesOut C E a k source (next_slot_on E i at.bus + period_of at)

-- So the latency is one period and one slot at most, from when the word is accepted until the slot of its cell ends.
abbrev pub LatencyIsBounded : Type 0
LatencyIsBounded =
    (C : ℕ) (E : GroupHistory) (h i k source : ℕ) (at : SlotPlace) (q : ℕ) (clock : Clock)
    → IsPlannedHistory E → IsAcceptedBefore C E.opening E.events i k source → h ≤ i → KeepsOutput E h k source at
    → EachOutput E i k source (MaySend q) → Passes E h i at (period_of at) → Passes E i k at (period_of at)
    → KeepsTime E clock
    → GoesOutWithin C E (wait_of source i k (next_slot_on E i at.bus + period_of at)) clock ((period_of at + 1) * clock.slot_time)

-- if the output has been there from the opening on, the word always goes out in one period of slots
abbrev pub OpeningWordsGoOutInTime : Type 0
OpeningWordsGoOutInTime =
    (C : ℕ) (E : GroupHistory) (i k source : ℕ) (at : SlotPlace) (q : ℕ)
    → IsPlannedHistory E → IsAcceptedBefore C E.opening E.events i k source → KeepsOutput E 0 k source at
    → EachOutput E i k source (MaySend q) → Passes E i k at (period_of at)
    → GoesOut C E i k source (next_slot_on E i at.bus + period_of at)

-- P is the period and q the spacing. After any earlier sends, an accepted word goes out, or a later one of its
-- source, in P + q - 1 slots.
abbrev pub AcceptedWordsGoOutAnyway : Type 0
AcceptedWordsGoOutAnyway =
    (C : ℕ) (E : GroupHistory) (i k source : ℕ) (at : SlotPlace) (q n : ℕ)
    → IsPlannedHistory E → IsAcceptedBefore C E.opening E.events i k source → KeepsOutput E i k source at
    → EachOutput E i k source (MaySend q) → period_of at ≤ n → period_of at + q ≤ n + 1 → Passes E i k at n
    → GoesOut C E i k source (next_slot_on E i at.bus + n)

-- One plan follows another, and both have an output of one source that holds no words. P and P' are the periods of the
-- first and the second output, and no spacing is above q. A word of the source that was sent by the first plan is
-- followed by another one within fewer than P' + max(P, q) slots.
abbrev pub SendsRecurAcrossAChange : Type 0
SendsRecurAcrossAChange =
    (C : ℕ) (E : GroupHistory) (j c k source : ℕ) (old new : SlotPlace) (x : Placed) (slot w q span : ℕ)
    → IsPlannedHistory E → Changes E j k source (move_of c old new) → EachOutput E j k source (IsUnheld q)
    → CellIsAnswered C E j x slot (Some w) → x.source ≡ source
    → period_of old + period_of new ≤ span → q + period_of new ≤ span → slot + span ≤ next_slot_on E k new.bus
    → SendsOne C E (j + 1) k source (slot + span)

-- One plan follows another, and the first one's output had stayed for a period before. A word that is accepted before
-- goes out, or a later one of the source, by either plan, within fewer than P' + max(P, q) slots.
abbrev pub WordsGoOutAcrossAChange : Type 0
WordsGoOutAcrossAChange =
    (C : ℕ) (E : GroupHistory) (h i c k source : ℕ) (old new : SlotPlace) (q n : ℕ)
    → IsPlannedHistory E → IsAcceptedBefore C E.opening E.events i c source → h ≤ i → Changes E h k source (move_of c old new)
    → EachOutput E i k source (MaySend q) → Passes E h i old (period_of old)
    → period_of old + period_of new ≤ n + 1 → q + period_of new ≤ n + 1
    → next_slot_on E i old.bus + n ≤ next_slot_on E k new.bus
    → GoesOut C E i k source (next_slot_on E i old.bus + n)

-- then the latency is at most n + 1 slots
abbrev pub LatencyIsBoundedAcrossAChange : Type 0
LatencyIsBoundedAcrossAChange =
    (C : ℕ) (E : GroupHistory) (h i c k source : ℕ) (old new : SlotPlace) (q n : ℕ) (clock : Clock)
    → IsPlannedHistory E → IsAcceptedBefore C E.opening E.events i c source → h ≤ i → Changes E h k source (move_of c old new)
    → EachOutput E i k source (MaySend q) → Passes E h i old (period_of old)
    → period_of old + period_of new ≤ n + 1 → q + period_of new ≤ n + 1
    → next_slot_on E i old.bus + n ≤ next_slot_on E k new.bus → KeepsTime E clock
    → GoesOutWithin C E (wait_of source i k (next_slot_on E i old.bus + n)) clock ((n + 1) * clock.slot_time)

-- Any plans follow one another, each with an output of the source that holds no words. The periods are at most P slots
-- and the spacings at most q. A word of the source that was sent is followed by another one within fewer than q +
-- 2 P slots.
abbrev pub SendsRecurAcrossChanges : Type 0
SendsRecurAcrossChanges =
    (C : ℕ) (E : GroupHistory) (j k source most : ℕ) (x : Placed) (slot w q span : ℕ)
    → IsPlannedHistory E → ChangesOften E j k source most span → EachOutput E j k source (IsUnheld q)
    → CellIsAnswered C E j x slot (Some w) → x.source ≡ source → 2 * most ≤ span → q + 2 * most ≤ span + 1
    → SendsOne C E (j + 1) k source (slot + span)

-- and a word that is accepted goes out, or a later one of the source, within fewer slots than that
abbrev pub WordsGoOutAcrossChanges : Type 0
WordsGoOutAcrossChanges =
    (C : ℕ) (E : GroupHistory) (i k source most q n : ℕ)
    → IsPlannedHistory E → IsAcceptedBefore C E.opening E.events i k source → (P : ChangesOften E i k source most n)
    → EachOutput E i k source (MaySend q) → 2 * most ≤ n + 1 → q + 2 * most ≤ n + 2
    → GoesOut C E i k source (next_slot_on E i P.first.at.bus + n)

-- then, if the slot before the next one was answered before the word was accepted, the latency is at most n + 1 slots
abbrev pub LatencyIsBoundedAcrossChanges : Type 0
LatencyIsBoundedAcrossChanges =
    (C : ℕ) (E : GroupHistory) (i k source most q n bus slot : ℕ) (clock : Clock)
    → IsPlannedHistory E → IsAcceptedBefore C E.opening E.events i k source → (P : ChangesOften E i k source most n)
    → EachOutput E i k source (MaySend q) → 2 * most ≤ n + 1 → q + 2 * most ≤ n + 2
    → AnswersOn E 0 i bus slot → next_slot_on E i P.first.at.bus ≤ slot + 1 → KeepsTime E clock
    → GoesOutWithin C E (wait_of source i k (next_slot_on E i P.first.at.bus + n)) clock ((n + 1) * clock.slot_time)
