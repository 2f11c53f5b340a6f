-- A law of the summary of a simulation: no word first goes out later than the bound of its output
-- (profile: docs/RULES.md, How late a word goes out).
use Rattle.std.specs.Prelude.{◌≡◌, ◌≤◌, ℕ, List, Some, slice_get}
use Rattle.std.specs.List.{AllByRecursion}
use Rattle.a429_text.specs.Fields.{Field, Number}
use Rattle.a429_slots.specs.Proposed.{Proposed}
use Rattle.a429_given.specs.GivenPlans.{IsGivenPlan}
use Rattle.a429_given.specs.GivenTables.{TableTexts}
use Rattle.a429_recordings.specs.Simulating.{happenings_of, steps_of}
use Rattle.a429_recordings.specs.Summary.{summary_rows}
use Rattle.a429_recordings.specs.Timeline.{IsTimeline}
use Rattle.a429_recordings.specs.declared.simulate.log.LogWord.{LogWord}
use Rattle.a429_recordings.specs.declared.simulate.moments.Moment.{Moment}

-- The sixth field of a row of the summary is the greatest lateness of a word when it first went out, and the seventh is the bound. If there is such a
-- lateness, it is at most the bound.
abbrev pub IsWithinBound : List Field → Type 0
IsWithinBound row = (late : ℕ) → slice_get row 5 ≡ Some (Number late) → (bound : ℕ) × (slice_get row 6 ≡ Some (Number bound)) × (late ≤ bound)

-- so it is in each row of the summary of a table's plan or of that of a plan text, for any log, and up to any time
abbrev pub WordsAreWithinBounds : Type 0
WordsAreWithinBounds =
    (table : TableTexts) (q : Proposed) (words : List LogWord) (last : ℕ) (moments : List Moment) → IsGivenPlan table q → IsTimeline q words last moments
    → AllByRecursion IsWithinBound (summary_rows q (happenings_of q (steps_of q moments)))
