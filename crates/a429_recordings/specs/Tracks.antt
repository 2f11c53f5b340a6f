-- The places of the groups of a simulation, as the program keeps them (vocabulary of contracts).
use Rattle.std.specs.Prelude.{◌≡◌, ◌+◌, ◌-◌, ◌*◌, ◌/◌, ◌<◌, ◌≤◌, ◌++◌, ◌∷◌, [], ◌↔◌, ⊤, ℕ, Bool, List, Option, Some, None, Result, MatchOption, MatchResult, IsTrue, drop, length, min, slice_get, slice_set, sum_by}
use Rattle.std.specs.Option.{option_map_or}
use Rattle.std.specs.declared.vec.Vec.{Vec}
use Rattle.std.specs.declared.alloc.Global.{Global}
use Rattle.a429_slots.specs.Proposed.{Proposed}
use Rattle.a429_slots.specs.Tables.{groups_of}
use Rattle.a429_equipment.specs.Sound.{OfEach}
use Rattle.a429_grid.specs.Grid.{slot_time}
use Rattle.a429_console.specs.RefusalText.{OrMemory}
use Rattle.a429_console.specs.declared.refusals.CommandRefusal.{CommandRefusal}
use Rattle.a429_console.specs.declared.refusals.CommandRefusal.TheVariants as refused
use Rattle.a429_recordings.specs.SimulationLog.{AreInTime}
use Rattle.a429_recordings.specs.Timeline.{HasHappened, IsTimeline, SendsTooMuch, rate_of, slots_before, slots_by}
use Rattle.a429_recordings.specs.declared.simulate.log.LogWord.{LogWord}
use Rattle.a429_recordings.specs.declared.simulate.moments.Moment.{Moment}
use Rattle.a429_recordings.specs.declared.simulate.moments.Moment.TheVariants.{Word, Slot}
use Rattle.a429_recordings.specs.declared.simulate.moments.Timeline.{Timeline}
use Rattle.a429_recordings.specs.declared.simulate.tracks.Track.{Track}

-- a rate in bit/s, and few enough slots that 64 bits can count their microseconds: those of a million frames, and those before 10^14 us
-- (profile: docs/RULES.md, Limits)
pub record IsTrack (x : Track) : Type 0 where
  pub some_rate : 1 ≤ x.rate
  pub few_rate : x.rate ≤ 100000
  pub few_slots : x.slots ≤ 300000000000
  pub within : x.next ≤ x.slots

-- the next slot of a group; 0 if there is no group of this number
abbrev pub next_at : List Track → ℕ → ℕ
next_at tracks g = option_map_or (λ x. x.next) (slice_get tracks g) 0

-- the groups after a slot of this one was taken
abbrev pub advanced : List Track → ℕ → List Track
advanced tracks g = option_map_or (λ x. slice_set tracks g (record x { next = x.next + 1 })) (slice_get tracks g) tracks

-- the next slot of a group begins no later than that of another, and if both begin at one instant the group comes no later in the table
pub record IsNoLater (x : Track) (g : ℕ) (y : Track) (h : ℕ) : Type 0 where
  pub no_later : x.next * y.rate ≤ y.next * x.rate
  pub ranked : x.next * y.rate ≡ y.next * x.rate → g ≤ h

-- the next slot of a group begins before that of the first of these, if there is one
abbrev pub GoesBefore : List Track → Track → Option ℕ → Bool → Type 0
GoesBefore tracks x None is = IsTrue is
GoesBefore tracks x (Some g) is = (y : Track) → slice_get tracks g ≡ Some y → IsTrue is ↔ (x.next * y.rate < y.next * x.rate)

-- among the first n groups, this is the one whose next slot is first
abbrev pub IsNextTrack : List Track → ℕ → Option ℕ → Type 0
IsNextTrack tracks n None = (h : ℕ) (y : Track) → h < n → slice_get tracks h ≡ Some y → y.slots ≤ y.next
IsNextTrack tracks n (Some g) =
    (g < n) × (x : Track) × (slice_get tracks g ≡ Some x) × (x.next < x.slots)
    × ((h : ℕ) (y : Track) → h < n → slice_get tracks h ≡ Some y → y.next < y.slots → IsNoLater x g y h)

-- the next slot of a group begins at this time or after it
abbrev pub IsAfter : ℕ → Track → Type 0
IsAfter time x = time * x.rate ≤ x.next * slot_time

-- the next slot of this group, if there is one, begins at this time or after it
abbrev pub GroupIsAfter : List Track → ℕ → Option ℕ → Type 0
GroupIsAfter tracks time None = ⊤
GroupIsAfter tracks time (Some g) = (x : Track) → slice_get tracks g ≡ Some x → IsAfter time x

-- the word that comes before the next slot of this group: the next one, or none
abbrev pub ComesFirst : List LogWord → ℕ → List Track → Option ℕ → Option LogWord → Type 0
ComesFirst words at tracks g (Some w) = (slice_get words at ≡ Some w) × GroupIsAfter tracks w.time g
ComesFirst words at tracks g None = (w : LogWord) → slice_get words at ≡ Some w → GroupIsAfter tracks w.time g → ⊥

-- what is left: words and slots
abbrev pub left_in : Timeline → ℕ
left_in l = (length l.words.items - l.at) + sum_by (λ x. x.slots - x.next) l.tracks.items

-- these are the groups of the station, with their rates and as many slots as begin at this time or before
pub record AreTracks (q : Proposed) (last : ℕ) (tracks : List Track) : Type 0 where
  pub many : length tracks ≡ length q.station.groups
  pub rates : (g : ℕ) (x : Track) → slice_get tracks g ≡ Some x → x.rate ≡ rate_of q g
  pub slots : (g : ℕ) (x : Track) → slice_get tracks g ≡ Some x → x.slots ≡ slots_by q last g

-- the timeline of these words after these moments
pub record IsTimelineAt (q : Proposed) (words : List LogWord) (last : ℕ) (moments : List Moment) (l : Timeline) : Type 0 where
  pub words_are : l.words.items ≡ words
  pub in_time : AreInTime words
  pub tracks : AreTracks q last l.tracks.items
  pub happened : HasHappened q words last moments (drop l.at words) (next_at l.tracks.items)

-- the next moment is taken; if there is none, all of the timeline has happened
abbrev pub TakesMoment : Timeline → Timeline → Option Moment → Type 0
TakesMoment old new result =
    (q : Proposed) (words : List LogWord) (last : ℕ) (moments : List Moment) → IsTimelineAt q words last moments old
    → MatchOption result (IsTimeline q words last moments) (λ m. IsTimelineAt q words last (moments ++ m ∷ []) new)

-- a slot is of a group of the station, and 64 bits can count its microseconds
abbrev pub IsKnownMoment : List Track → Moment → Type 0
IsKnownMoment tracks (Word w) = ⊤
IsKnownMoment tracks (Slot g t) = (g < length tracks) × (t < 300000000000)

-- how many slots begin at the last time or before, unless those from the first time on are more than a million frames
-- (profile: docs/RULES.md, Limits)
abbrev pub SlotsAreCounted : ℕ → ℕ → ℕ → ℕ → Option ℕ → Type 0
SlotsAreCounted rate frame first last None = slots_before rate first + 1000000 * frame < last * rate / slot_time + 1
SlotsAreCounted rate frame first last (Some slots) = (slots ≡ last * rate / slot_time + 1) × (slots ≤ 300000000000)

-- before this time no word comes in: that of the first word, or the last time at which slots begin, if that is earlier
abbrev pub silent_until : List LogWord → ℕ → ℕ
silent_until [] last = last
silent_until (w ∷ words) last = min w.time last

-- the next slot of a group is the first that begins at this time or after it
abbrev pub StartsAt : ℕ → Track → Type 0
StartsAt start x = x.next ≡ slots_before x.rate start

-- the first n groups, each before its first slot at the start or after it
pub record AreCountedTo (q : Proposed) (start last n : ℕ) (tracks : List Track) : Type 0 where
  pub many : length tracks ≡ n
  pub rates : (g : ℕ) (x : Track) → slice_get tracks g ≡ Some x → x.rate ≡ rate_of q g
  pub slots : (g : ℕ) (x : Track) → slice_get tracks g ≡ Some x → x.slots ≡ slots_by q last g
  pub sound : OfEach IsTrack tracks
  pub begun : OfEach (StartsAt start) tracks

-- one for each group of the station and its plan
abbrev pub HasTracks : Proposed → List Track → Type 0
HasTracks q tracks = (length tracks ≡ length q.station.groups) × (length tracks ≡ length (groups_of q.plan))

-- each group before its first slot that is not before the first word, unless one would send too much
abbrev pub IsTracking : Proposed → List LogWord → ℕ → Result (Vec Track Global) CommandRefusal → Type 0
IsTracking q words last result =
    MatchResult result (λ tracks. AreTracks q last tracks.items × HasTracks q tracks.items × OfEach IsTrack tracks.items
    × OfEach (StartsAt (silent_until words last)) tracks.items)
    (OrMemory (λ refusal. (refusal ≡ refused.TooMuch) × SendsTooMuch q words last))
