-- The timeline of a simulation: words of a log, and slots of a station's groups, in the order of time
-- (profile: docs/FORMATS.md, Output of `simulate`).
use Rattle.std.specs.Prelude.{◌≡◌, ◌==◌, ◌+◌, ◌*◌, ◌/◌, ◌<◌, ◌≤◌, ◌++◌, ◌∷◌, [], ⊤, ℕ, List, Option, Some, None, if◌then◌else◌, nat_lt, length, filter_map, max, slice_get, unwrap_or}
use Rattle.std.specs.Int.{div_ceil}
use Rattle.std.specs.List.{AllByRecursion, range_with_len}
use Rattle.std.specs.Option.{option_map_or}
use Rattle.a429_equipment.specs.Agreement.{last_of}
use Rattle.a429_equipment.specs.declared.rows.GroupRow.{GroupRow}
use Rattle.a429_grid.specs.Grid.{slot_time}
use Rattle.a429_slots.specs.Times.{slots_us}
use Rattle.a429_slots.specs.Proposed.{Proposed}
use Rattle.a429_slots.specs.Tables.{SlotTable, frame_of, groups_of, no_table}
use Rattle.a429_recordings.specs.declared.simulate.log.LogWord.{LogWord}
use Rattle.a429_recordings.specs.declared.simulate.moments.Moment.{Moment}
use Rattle.a429_recordings.specs.declared.simulate.moments.Moment.TheVariants.{Word, Slot}

-- ---- when a moment is

-- the bit rate of a group
abbrev pub rate_of : Proposed → ℕ → ℕ
rate_of q g = option_map_or (λ row. row.rate) (slice_get q.station.groups g) 1

-- the slot table of a group
abbrev pub table_of : Proposed → ℕ → SlotTable
table_of q g = unwrap_or (slice_get (groups_of q.plan) g) no_table

-- an instant, exactly: a number of microseconds, divided by a divisor
pub record Instant : Type 0 where
  pub micros : ℕ
  pub divisor : ℕ

-- a word has its time in the log; slot t of a group of rate R begins t * 36000000 / R microseconds after the begin of the simulation
abbrev pub instant_of : Proposed → Moment → Instant
instant_of q (Word w) = record { micros = w.time; divisor = 1 }
instant_of q (Slot g t) = record { micros = t * slot_time; divisor = rate_of q g }

-- at one instant words come first, and then the slots of the groups in table order
abbrev pub rank_of : Moment → ℕ
rank_of (Word w) = 0
rank_of (Slot g t) = g + 1

-- a moment is at no later instant than another, and at the same one of no later rank
pub record Precedes (q : Proposed) (a b : Moment) : Type 0 where
  pub no_later : (instant_of q a).micros * (instant_of q b).divisor ≤ (instant_of q b).micros * (instant_of q a).divisor
  pub ranked : (instant_of q a).micros * (instant_of q b).divisor ≡ (instant_of q b).micros * (instant_of q a).divisor → rank_of a ≤ rank_of b

-- all of these moments precede this one
abbrev pub AllPrecede : Proposed → List Moment → Moment → Type 0
AllPrecede q moments later = AllByRecursion (λ m. Precedes q m later) moments

-- each moment precedes all that come after it
abbrev pub MomentsAreInOrder : Proposed → List Moment → Type 0
MomentsAreInOrder q [] = ⊤
MomentsAreInOrder q (m ∷ moments) = AllByRecursion (Precedes q m) moments × MomentsAreInOrder q moments

-- ---- which moments there are

-- the word that comes in at a moment
abbrev pub word_of : Moment → Option LogWord
word_of (Word w) = Some w
word_of (Slot g t) = None

-- the slot of group g that begins at a moment
abbrev pub slot_of : ℕ → Moment → Option ℕ
slot_of g (Word w) = None
slot_of g (Slot h t) = if h == g then Some t else None

-- how many slots of a group begin at this time, in microseconds, or before: slot t does if t * 36000000 ≤ last * R
abbrev pub slots_by : Proposed → ℕ → ℕ → ℕ
slots_by q last g = if nat_lt g (length q.station.groups) then last * rate_of q g / slot_time + 1 else 0

-- What has happened so far: the first of the words, of which these are left, and the first slots of each group, of which this one is next. They are in
-- the order of time, and before what comes next.
pub record HasHappened (q : Proposed) (words : List LogWord) (last : ℕ) (moments : List Moment) (left : List LogWord) (next : ℕ → ℕ) : Type 0 where
  pub words_are : filter_map word_of moments ++ left ≡ words
  pub slots_are : (g : ℕ) → filter_map (slot_of g) moments ≡ range_with_len 0 (next g)
  pub few : (g : ℕ) → next g ≤ slots_by q last g
  pub in_order : MomentsAreInOrder q moments
  pub before_words : (w : LogWord) (ws : List LogWord) → left ≡ w ∷ ws → AllPrecede q moments (Word w)
  pub before_slots : (g : ℕ) → next g < slots_by q last g → AllPrecede q moments (Slot g (next g))

-- these moments have happened, and there may be more
abbrev pub TimelineIsBegun : Proposed → List LogWord → ℕ → List Moment → Type 0
TimelineIsBegun q words last moments = (left : List LogWord) × (next : ℕ → ℕ) × HasHappened q words last moments left next

-- The timeline: the words of the log in order, and of each group all slots that begin at the last time or before, in their order. All are in the
-- order of time.
pub record IsTimeline (q : Proposed) (words : List LogWord) (last : ℕ) (moments : List Moment) : Type 0 where
  pub words_are : filter_map word_of moments ≡ words
  pub slots_are : (g : ℕ) → filter_map (slot_of g) moments ≡ range_with_len 0 (slots_by q last g)
  pub in_order : MomentsAreInOrder q moments

-- ---- how long it is

-- the longest frame of groups, in microseconds, rounded up
abbrev pub longest_frame : List GroupRow → List SlotTable → ℕ
longest_frame (row ∷ rows) (p ∷ tables) = max (slots_us row.rate (frame_of p)) (longest_frame rows tables)
longest_frame _ _ = 0

-- the time of the last word; with none, the begin
abbrev pub last_time : List LogWord → ℕ
last_time words = option_map_or (λ w. w.time) (last_of words) 0

-- the last time at which slots begin: the one that is asked for, or a longest frame after the last word
abbrev pub end_of : Proposed → List LogWord → Option ℕ → ℕ
end_of q words (Some until) = until
end_of q words None = last_time words + longest_frame q.station.groups (groups_of q.plan)

-- the time of the first word; with none, the begin
abbrev pub first_time : List LogWord → ℕ
first_time [] = 0
first_time (w ∷ words) = w.time

-- how many slots begin before this time, in microseconds: slot t does if t * 36000000 < time * rate
abbrev pub slots_before : ℕ → ℕ → ℕ
slots_before rate time = div_ceil (time * rate) slot_time

-- from the first word to the last time, more slots of a group begin than a million frames have
abbrev pub SendsTooMuch : Proposed → List LogWord → ℕ → Type 0
SendsTooMuch q words last =
    (g : ℕ) × (slots_before (rate_of q g) (first_time words) + 1000000 * frame_of (table_of q g) < slots_by q last g)
