-- An example that the laws of latency speak of: a group sends its only source in every second slot, and a word comes in once its output has stayed
-- for a period (profile: docs/RULES.md, How late a word goes out).
use Rattle.std.specs.Prelude.{◌∷◌, [], List, None}
use Rattle.a429_equipment.specs.declared.rows.SourceRow.{SourceRow}
use Rattle.a429_equipment.specs.TableRecord.{TableRecord}
use Rattle.a429_slots.specs.declared.group_plan.SlotPlace.{SlotPlace}
use Rattle.a429_slots.specs.Tables.{SlotTable}
use Rattle.a429_slots.specs.Events.{Event, Arrive, Cell, Frame}
use Rattle.a429_slots.specs.History.{Opening}
use Rattle.a429_core.specs.Histories.{GroupHistory, history_of}
use Rattle.a429_core.specs.Latency.{Clock, EachOutput, IsAcceptedBefore, IsPlannedHistory, KeepsOutput, KeepsTime, MaySend, Passes, period_of}

-- words of label 203 with any SDI, at the only receiver
abbrev pub source : SourceRow
source = record { name = 115 ∷ []; receiver = 0; label = 131; sdi = None }

-- at 100000 bit/s, 720 µs are two slots
abbrev pub station : TableRecord
station = record {
  version = 2;
  rate = None;
  receivers = record { name = 114 ∷ []; filters = None } ∷ [];
  sources = source ∷ [];
  groups = record { name = 103 ∷ []; rate = 100000 } ∷ [];
  outputs = (record { source = 0; min_us = 720; max_us = 720; hold = None } ∷ []) ∷ [];
}

abbrev pub at : SlotPlace
at = record { bus = 0; offset = 0; period = 1 }

abbrev pub table : SlotTable
table = record { frame = 1; buses = 1; outputs = record { source = 0; place = at; limits = record { hold = None; spacing = 2 } } ∷ []; order = 0 ∷ [] }

abbrev pub opening : Opening
opening = record { proposal = record { station = station; plan = record { groups = table ∷ []; number = 0 } }; first = 0 }

-- a frame is sent, then the word 600000c1 comes in, and another frame is sent
abbrev pub history : List Event
history = Cell 0 ∷ Cell 0 ∷ Frame 0 ∷ Arrive 0 1610612929 ∷ Cell 0 ∷ Cell 0 ∷ Frame 0 ∷ []

abbrev pub run : GroupHistory
run = history_of opening 0 table history

-- one unit of time an event, and as much a slot
abbrev pub clock : Clock
clock = record { time = λ place. place; slot_time = 1 }

-- what the law of latency supposes of a word that comes in at place 3, for the stretch up to place 6
pub record MeetsPremises : Type 0 where
  pub planned : IsPlannedHistory run
  pub accepted : IsAcceptedBefore 41 opening history 3 6 0
  pub stays : KeepsOutput run 0 6 0 at
  pub sends : EachOutput run 3 6 0 (MaySend 2)
  pub settled : Passes run 0 3 at (period_of at)
  pub passes : Passes run 3 6 at (period_of at)
  pub timely : KeepsTime run clock
