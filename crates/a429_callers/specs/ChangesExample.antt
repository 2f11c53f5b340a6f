-- An example that the laws of a change speak of: a group sends its only source in every second slot, and goes on to a plan that has it in every
-- fourth (profile: docs/RULES.md, How late a word goes out).
use Rattle.std.specs.Prelude.{◌+◌, ◌<◌, ◌≤◌, ◌∷◌, [], ℕ, List, None}
use Rattle.a429_equipment.specs.declared.rows.SourceRow.{SourceRow}
use Rattle.a429_equipment.specs.TableRecord.{TableRecord}
use Rattle.a429_slots.specs.Tables.{Placed, SlotTable}
use Rattle.a429_slots.specs.Proposed.{Proposed}
use Rattle.a429_slots.specs.Events.{Event, Arrive, Cell, Frame, Publish}
use Rattle.a429_slots.specs.History.{Opening}
use Rattle.a429_core.specs.Histories.{GroupHistory, current_at, history_of}
use Rattle.a429_core.specs.Latency.{Changes, Clock, EachOutput, IsAcceptedBefore, IsPlannedHistory, IsUnheld, KeepsTime, MaySend, Passes, move_of, next_slot_on, period_of}
use Rattle.a429_documents.specs.Diff.{gap_of}
use Rattle.a429_callers.specs.NextSends.{HasThisOutput, IsLastSend, NoHoldEmpties}

-- words of label 203 with any SDI, at the only receiver
abbrev pub source : SourceRow
source = record { name = 115 ∷ []; receiver = 0; label = 131; sdi = None }

-- the station, which sends its source at this interval, in µs
abbrev pub station_at : ℕ → TableRecord
station_at us = record {
  version = 2;
  rate = None;
  receivers = record { name = 114 ∷ []; filters = None } ∷ [];
  sources = source ∷ [];
  groups = record { name = 103 ∷ []; rate = 100000 } ∷ [];
  outputs = (record { source = 0; min_us = us; max_us = us; hold = None } ∷ []) ∷ [];
}

-- the output in every 2^k-th slot
abbrev pub output_each : ℕ → ℕ → Placed
output_each k slots = record { source = 0; place = record { bus = 0; offset = 0; period = k }; limits = record { hold = None; spacing = slots } }

abbrev pub table_of : ℕ → Placed → SlotTable
table_of k x = record { frame = k; buses = 1; outputs = x ∷ []; order = 0 ∷ [] }

abbrev pub old : Placed
old = output_each 1 2

abbrev pub new : Placed
new = output_each 2 4

-- at 100000 bit/s, 720 µs are two slots
abbrev pub opening : Opening
opening = record { proposal = record { station = station_at 720; plan = record { groups = table_of 1 old ∷ []; number = 0 } }; first = 0 }

-- and 1440 µs four
abbrev pub next : Proposed
next = record { station = station_at 1440; plan = record { groups = table_of 2 new ∷ []; number = 0 } }

-- the word 600000c1 comes in and is sent, and comes in again; then the plan changes, and nine slots have passed in all
abbrev pub history : List Event
history = Arrive 0 1610612929 ∷ Cell 0 ∷ Cell 0 ∷ Arrive 0 1610612929 ∷ Publish next ∷ Frame 0 ∷ Cell 0 ∷ Cell 0 ∷ Cell 0 ∷ Cell 0 ∷ Frame 0 ∷ Cell 0 ∷ Cell 0 ∷ Cell 0 ∷ []

abbrev pub run : GroupHistory
run = history_of opening 0 (table_of 1 old) history

-- one unit of time an event, and as much a slot
abbrev pub clock : Clock
clock = record { time = λ place. place; slot_time = 1 }

-- what the laws of a change suppose: of the word that comes in at place 3, and of the one that is sent at place 1
pub record MeetsPremisesOfAChange : Type 0 where
  pub planned : IsPlannedHistory run
  pub changes : Changes run 0 14 0 (move_of 5 old.place new.place)
  pub accepted : IsAcceptedBefore 41 opening history 3 14 0
  pub sends : EachOutput run 3 14 0 (MaySend 4)
  pub settled : Passes run 0 3 old.place (period_of old.place)
  pub passes : next_slot_on run 3 0 + 7 ≤ next_slot_on run 14 0
  pub timely : KeepsTime run clock
  pub sent : Changes run 1 14 0 (move_of 5 old.place new.place)
  pub unheld : EachOutput run 1 14 0 (IsUnheld 4)
  pub output : HasThisOutput (current_at run 6).table 0 new
  pub last : IsLastSend 41 run 1 5 0 old 0
  pub free : NoHoldEmpties 41 run 6 14 0
  pub far : gap_of old new < next_slot_on run 14 0
  -- eight slots are enough for both
  pub periods : period_of old.place + period_of new.place ≤ 8
  pub spacing : 4 + period_of new.place ≤ 8
  pub soon : 8 ≤ next_slot_on run 14 0
