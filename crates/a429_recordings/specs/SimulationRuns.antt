-- A simulation by the values of the program: its machine, and what is played on it (vocabulary of contracts).
use Rattle.std.specs.Prelude.{◌≡◌, ◌+◌, ◌-◌, ◌*◌, ◌^◌, ◌<◌, ◌≤◌, ◌++◌, ◌∷◌, [], ⊤, ℕ, zero, suc, List, Option, None, Some, Result, IfSome, MatchOption, MatchResult, get_or, length, min, replicate, slice_get, slice_set}
use Rattle.std.specs.Option.{option_map_or}
use Rattle.a429_equipment.specs.Limits.{count_bits}
use Rattle.a429_equipment.specs.Sound.{IsSound, OfEach}
use Rattle.a429_slots.specs.Planned.{IsPlanOf}
use Rattle.a429_slots.specs.Proposed.{Proposed}
use Rattle.a429_slots.specs.FrameStates.{FrameState}
use Rattle.a429_slots.specs.Tables.{PlanTable, buses_of, groups_of}
use Rattle.a429_core.specs.MachineStates.{StandsForHistory}
use Rattle.a429_core.specs.Passed.{groups_passed}
use Rattle.a429_console.specs.Names.{Naming, naming_of}
use Rattle.a429_console.specs.RefusalText.{OrMemory}
use Rattle.a429_console.specs.declared.refusals.CommandRefusal.{CommandRefusal}
use Rattle.a429_console.specs.declared.refusals.CommandRefusal.TheVariants as refused
use Rattle.a429_recordings.specs.Simulating.{Step, Asks, Comes, happening_after, happenings_after, happenings_of, history_of, last_word, listed, opening_of, steps_of, times_of, turn_after}
use Rattle.a429_recordings.specs.SimulationLog.{AreInTime}
use Rattle.a429_recordings.specs.Timeline.{IsTimeline, SendsTooMuch, table_of}
use Rattle.a429_recordings.specs.Tracks.{HasTracks, IsTimelineAt, IsTrack, left_in, next_at}
use Rattle.a429_recordings.specs.declared.simulate.log.LogWord.{LogWord}
use Rattle.a429_recordings.specs.declared.simulate.machine.Happening.{Happening}
use Rattle.a429_recordings.specs.declared.simulate.machine.Happening.TheVariants.{Refuses, Sends}
use Rattle.a429_recordings.specs.declared.simulate.machine.Heard.{Heard}
use Rattle.a429_recordings.specs.declared.simulate.machine.Run.{Run}
use Rattle.a429_recordings.specs.declared.simulate.moments.Moment.{Moment}
use Rattle.a429_recordings.specs.declared.simulate.moments.Moment.TheVariants.{Word, Slot}
use Rattle.a429_recordings.specs.declared.simulate.playing.Player.{Player}
use Rattle.a429_recordings.specs.declared.simulate.playing.SlotLeft.{SlotLeft}
use Rattle.a429_recordings.specs.declared.simulate.tracks.Track.{Track}

-- the names are those of the station
abbrev pub HasStationNames : Naming → Proposed → Type 0
HasStationNames names q = names ≡ naming_of q.station

-- the station and its plan have this group
abbrev pub HasPlannedGroup : Proposed → ℕ → Type 0
HasPlannedGroup q g = (g < length q.station.groups) × (g < length (groups_of q.plan))

-- a slot is of a group of the station, and 64 bits can count its microseconds
abbrev pub IsSlotOf : Proposed → ℕ → ℕ → Type 0
IsSlotOf q g t = HasPlannedGroup q g × (t < 300000000000)

abbrev pub IsWithinRun : Proposed → Moment → Type 0
IsWithinRun q (Word w) = ⊤
IsWithinRun q (Slot g t) = IsSlotOf q g t

abbrev pub IsKnown : Proposed → Happening → Type 0
IsKnown q (Refuses w why) = ⊤
IsKnown q (Sends s) = IsSlotOf q s.group s.send.slot

-- ---- the machine

abbrev pub unheard : Heard
unheard = record { word = 0; time = 0 }

-- the last accepted word of a source, as it is kept
abbrev pub heard_at : List Heard → ℕ → Heard
heard_at heard source = get_or heard source unheard

-- a word of a source is accepted
abbrev pub noted : List Heard → ℕ → ℕ → List Heard
noted heard source time =
    option_map_or (λ own. slice_set heard source (record { word = min (own.word + 1) (2 ^ 64 - 1); time = time })) (slice_get heard source) heard

-- the machine has taken these steps, and of each source the last accepted word is kept
pub record StandsAfter (q : Proposed) (past : List Step) (r : Run) : Type 0 where
  pub sound : IsSound q.station
  pub planned : IsPlanOf q.station q.plan
  pub state : StandsForHistory count_bits (opening_of q) (history_of past) r.state
  pub many : length r.heard.items ≡ length q.station.sources
  pub heard : (source : ℕ) → heard_at r.heard.items source ≡ last_word (times_of q past source)

-- the machine of a station to which nothing has happened
abbrev pub IsOpening : Proposed → Result Run CommandRefusal → Type 0
IsOpening q result = MatchResult result (StandsAfter q []) (λ e. e ≡ refused.Memory)

-- the groups of a machine, of which the first n have passed the slots before the next ones of these tracks
abbrev pub groups_at : List FrameState → PlanTable → List Track → ℕ → List FrameState
groups_at groups newest tracks zero = groups
groups_at groups newest tracks (suc n) = groups_passed (groups_at groups newest tracks n) newest n (next_at tracks n)

abbrev pub put_at : Run → List Track → Run
put_at r tracks = record r { state = record r.state { groups = groups_at r.state.groups r.state.newest tracks (length tracks) } }

-- whatever steps the machine had taken, now it has taken this one after them, and this happened in it
abbrev pub TakesStep : Proposed → Step → Run → Run → Option Happening → Type 0
TakesStep q step old new result =
    (past : List Step) → StandsAfter q past old → StandsAfter q (past ++ step ∷ []) new × (result ≡ happening_after q past step)

-- the same of steps in which nothing happens
abbrev pub TakesQuietly : Proposed → List Step → Run → Run → Type 0
TakesQuietly q steps old new =
    (past : List Step) → StandsAfter q past old → StandsAfter q (past ++ steps) new × (happenings_after q past steps ≡ [])

-- ---- what is played

-- the steps that are left of a slot
abbrev pub left_of : Proposed → Option SlotLeft → List Step
left_of q None = []
left_of q (Some s) = replicate s.cells (Asks s.group s.slot) ++ turn_after q s.group s.slot

-- Of the steps that were left of the slot under way, the machine has taken the first, whatever it had taken before; these are left now, and this
-- happened.
abbrev pub GoesOn : Proposed → Run → Option SlotLeft → Run → Option SlotLeft → List Happening → Type 0
GoesOn q old slot new slot' happened =
    (past : List Step) → StandsAfter q past old
    → (steps : List Step) × (steps ++ left_of q slot' ≡ left_of q slot) × StandsAfter q (past ++ steps) new × (happenings_after q past steps ≡ happened)

-- this happened in the slot under way
abbrev pub PlaysCells : Proposed → Player → Player → Option Happening → Type 0
PlaysCells q old new result = GoesOn q old.run old.slot new.run new.slot (listed result) × (new.timeline ≡ old.timeline)

-- the timeline of these words was played up to a place, and this is what happened
pub record HasPlayed (q : Proposed) (words : List LogWord) (last : ℕ) (told : List Happening) (p : Player) : Type 0 where
  pub moments : List Moment
  pub steps : List Step
  pub timeline : IsTimelineAt q words last moments p.timeline
  pub begun : steps ++ left_of q p.slot ≡ steps_of q moments
  pub run : StandsAfter q steps p.run
  pub told_is : told ≡ happenings_of q steps

-- this happens in a whole timeline
abbrev pub AreHappenings : Proposed → List LogWord → ℕ → List Happening → Type 0
AreHappenings q words last told = (moments : List Moment) × IsTimeline q words last moments × (told ≡ happenings_of q (steps_of q moments))

-- after any events that were given before, this happened next; without a next event, all of the timeline was played
abbrev pub Tells : Proposed → Player → Player → Option Happening → Type 0
Tells q old new result =
    (words : List LogWord) (last : ℕ) (told : List Happening) → HasPlayed q words last told old
    → MatchOption result (AreHappenings q words last told) (λ h. HasPlayed q words last (told ++ h ∷ []) new)

-- a moment begins when no slot is under way
abbrev pub BeginsMoment : Proposed → Moment → Player → Player → Option Happening → Type 0
BeginsMoment q (Word w) old new result = TakesStep q (Comes w) old.run new.run result × (new.slot ≡ old.slot) × (new.timeline ≡ old.timeline)
BeginsMoment q (Slot g t) old new result =
    (new.run ≡ old.run) × (new.slot ≡ Some (record { group = g; slot = t; cells = buses_of (table_of q g) })) × (new.timeline ≡ old.timeline)
    × (result ≡ None)

-- how much is left to play
abbrev pub cells_left : Option SlotLeft → ℕ
cells_left None = 0
cells_left (Some s) = s.cells

abbrev pub left_to_play : Player → ℕ
left_to_play p = left_in p.timeline * 17 + cells_left p.slot

-- a slot of a group, with no more cells than a group has buses
abbrev pub CanBeUnderWay : Proposed → SlotLeft → Type 0
CanBeUnderWay q s = IsSlotOf q s.group s.slot × (s.cells ≤ 16)

-- the player has a track for each group, words in time, and a slot under way of a group
pub record CanBePlayed (q : Proposed) (p : Player) : Type 0 where
  pub tracks : HasTracks q p.timeline.tracks.items
  pub sound : OfEach IsTrack p.timeline.tracks.items
  pub in_time : AreInTime p.timeline.words.items
  pub slot : IfSome p.slot (CanBeUnderWay q)

-- nothing has happened
abbrev pub IsBegin : Proposed → List LogWord → ℕ → Player → Type 0
IsBegin q words last p = HasPlayed q words last [] p × CanBePlayed q p

-- a beginning, or that a group would send too much
abbrev pub IsBeginningOf : Proposed → List LogWord → ℕ → Result Player CommandRefusal → Type 0
IsBeginningOf q words last result = MatchResult result (IsBegin q words last) (OrMemory (λ refusal. (refusal ≡ refused.TooMuch) × SendsTooMuch q words last))
