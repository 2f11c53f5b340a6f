-- An example that the laws of any number of changes speak of: a group sends its only source in every second slot, goes on to a plan that has it in
-- every fourth, and then back to the first one (profile: docs/RULES.md, How late a word goes out).
use Rattle.std.specs.Prelude.{◌≡◌, ◌+◌, ◌*◌, ◌≤◌, ◌∷◌, [], List, Some}
use Rattle.a429_slots.specs.Proposed.{Proposed}
use Rattle.a429_slots.specs.Events.{Event, Arrive, Cell, Frame, Publish}
use Rattle.a429_core.specs.Histories.{GroupHistory, current_at, history_of}
use Rattle.a429_core.specs.Latency.{AnswersOn, ChangesOften, EachOutput, IsAcceptedBefore, IsPlannedHistory, IsUnheld, KeepsTime, MaySend, next_slot_on}
use Rattle.a429_core.specs.Spaced.{CellIsAnswered}
use Rattle.a429_callers.specs.ChangesExample.{clock, new, next, old, opening, station_at, table_of}

-- the first plan again
abbrev pub again : Proposed
again = record { station = station_at 720; plan = record { groups = table_of 1 old ∷ []; number = 0 } }

-- The word 600000c1 comes in and is sent, and comes in again. Then the plan changes, and after a frame of four slots it changes back.
-- Twelve slots pass in all.
abbrev pub events : List Event
events =
    Arrive 0 1610612929 ∷ Cell 0 ∷ Cell 0 ∷ Arrive 0 1610612929 ∷ Publish next ∷ Frame 0 ∷ Cell 0 ∷ Cell 0 ∷ Cell 0 ∷ Cell 0 ∷ Publish again ∷ Frame 0
    ∷ Cell 0 ∷ Cell 0 ∷ Frame 0 ∷ Cell 0 ∷ Cell 0 ∷ Frame 0 ∷ Cell 0 ∷ Cell 0 ∷ []

abbrev pub many : GroupHistory
many = history_of opening 0 (table_of 1 old) events

-- what the laws of changes suppose: of the word that comes in at place 3, and of the one that is sent at place 1
pub record MeetsPremisesOfChanges : Type 0 where
  pub planned : IsPlannedHistory many
  pub accepted : IsAcceptedBefore 41 opening events 3 20 0
  pub often : ChangesOften many 3 20 0 4 10
  pub sends : EachOutput many 3 20 0 (MaySend 4)
  pub answered : AnswersOn many 0 3 0 1
  pub follows : next_slot_on many 3 often.first.at.bus ≤ 1 + 1
  pub timely : KeepsTime many clock
  -- slots enough for an accepted word
  pub periods : 2 * 4 ≤ 10 + 1
  pub spacing : 4 + 2 * 4 ≤ 10 + 2
  pub since : ChangesOften many 1 20 0 4 11
  pub unheld : EachOutput many 1 20 0 (IsUnheld 4)
  pub sent : CellIsAnswered 41 many 1 old 0 (Some 1610612929)
  pub same : old.source ≡ 0
  -- and for the word after the one that was sent
  pub far : 4 + 2 * 4 ≤ 11 + 1
  -- the plan changes twice
  pub changed : (current_at many 6).table ≡ table_of 2 new
  pub back : (current_at many 12).table ≡ table_of 1 old
