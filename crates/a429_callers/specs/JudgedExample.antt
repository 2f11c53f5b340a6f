-- A group that is judged, worked out (profile: docs/FORMATS.md, Output of `judge`). A slot is 360.1 µs, since the clock of the box is slow. Its only
-- output has a period of four slots, and sends each word twice at most. The words 193, 3265 and 12481 come in at 500, 4000 and 5000 µs. The output's
-- slots begin at 1000, 2440.4, 3880.8 and 5321.2 µs. The first two send the first word, the third sends nothing, and the fourth sends the third
-- word. One log lacks the first word, and the other one the first send.
use Rattle.std.specs.Prelude.{◌≡◌, ◌≤◌, ◌+◌, ◌*◌, ◌∷◌, [], ℕ, zero, suc, List, None, Some, filter}
use Rattle.a429_equipment.specs.declared.rows.OutputRow.{OutputRow}
use Rattle.a429_equipment.specs.TableRecord.{TableRecord}
use Rattle.a429_judge.specs.declared.facts.Mark.{Mark}
use Rattle.a429_judge.specs.Recordings.{Recording, overlapping}
use Rattle.a429_slots.specs.Events.{Event, Arrive, Cell, Frame}
use Rattle.a429_slots.specs.History.{AnsweredCell, Opening, answered_cells, has_sent}
use Rattle.a429_slots.specs.Tables.{Placed}
use Rattle.a429_core.specs.Histories.{GroupHistory, history_of}
use Rattle.a429_callers.specs.ChangesExample.{source, table_of}
use Rattle.a429_callers.specs.JudgedGroups.{IsRecordedRun, JudgedGroup, KeepsPlan, Timing, duties_in, duty_in}

abbrev pub row : OutputRow
row = record { source = 0; min_us = 1440; max_us = 1440; hold = Some 2 }

abbrev pub station : TableRecord
station = record {
  version = 2;
  rate = None;
  receivers = record { name = 114 ∷ []; filters = None } ∷ [];
  sources = source ∷ [];
  groups = record { name = 103 ∷ []; rate = 100000 } ∷ [];
  outputs = (row ∷ []) ∷ [];
}

abbrev pub output : Placed
output = record { source = 0; place = record { bus = 0; offset = 0; period = 2 }; limits = record { hold = Some 2; spacing = 4 } }

abbrev pub opening : Opening
opening = record { proposal = record { station = station; plan = record { groups = table_of 2 output ∷ []; number = 0 } }; first = 0 }

-- each word comes in before the cells of the slots that begin later
abbrev pub events : List Event
events =
    Arrive 0 193 ∷ Cell 0 ∷ Cell 0 ∷ Cell 0 ∷ Cell 0 ∷ Frame 0 ∷ Cell 0 ∷ Cell 0 ∷ Cell 0 ∷ Cell 0 ∷ Frame 0
    ∷ Cell 0 ∷ Arrive 0 3265 ∷ Cell 0 ∷ Cell 0 ∷ Cell 0 ∷ Arrive 0 12481 ∷ Frame 0 ∷ Cell 0 ∷ []

abbrev pub run : GroupHistory
run = history_of opening 0 (table_of 2 output) events

-- the answered cells that have a word
abbrev pub sent : List AnsweredCell
sent =
    record { slot = 0; source = 0; count = 1; word = Some 193 }
    ∷ record { slot = 4; source = 0; count = 1; word = Some 193 }
    ∷ record { slot = 12; source = 0; count = 3; word = Some 12481 } ∷ []

-- two slots are 720 µs
abbrev pub group : JudgedGroup
group = record { history = run; rate = 100000; rows = row ∷ []; tolerance = 720 }

-- the words that source 0 accepted, and when, in units of 1 / 100000 µs
abbrev pub words_of : ℕ → List Mark
words_of zero = record { time = 500; raw = 193 } ∷ record { time = 4000; raw = 3265 } ∷ record { time = 5000; raw = 12481 } ∷ []
words_of (suc n) = []

abbrev pub moments_of : ℕ → List ℕ
moments_of zero = 50000000 ∷ 400000000 ∷ 500000000 ∷ []
moments_of (suc n) = []

-- The first slot begins at 1000 µs, and a send is recorded 100 µs later than its slot begins. Times may be wrong by 60 µs, and four slots by 0.4 µs.
abbrev pub timing : Timing
timing = record {
  finer = 1;
  begin = λ slot. 100000000 + slot * 36010000;
  delay = 10000000;
  wrong = 6000000;
  drift = 40000;
  words = words_of;
  moments = moments_of;
  from = 4;
}

-- of the sends the second is recorded 59.6 µs late, and the third 21.2 µs early
abbrev pub log : Recording
log = record {
  heard =
      record { source = 0; mark = record { time = 4000; raw = 3265 } }
      ∷ record { source = 0; mark = record { time = 5000; raw = 12481 } } ∷ [];
  last_heard = 5000;
  sent =
      record { group = 0; bus = None; mark = record { time = 2600; raw = 193 } }
      ∷ record { group = 0; bus = Some 0; mark = record { time = 5400; raw = 12481 } } ∷ [];
  last_sent = 5400;
}

-- what the laws of judged groups suppose, and what the output sends
pub record MeetsPremisesOfJudging : Type 0 where
  pub keeps : KeepsPlan group
  pub recorded : IsRecordedRun 41 group timing log
  pub own : overlapping (duty_in group (row, output)) (duties_in group) ≤ 1
  pub sends : filter (has_sent 0) (answered_cells 41 opening 0 (table_of 2 output) events) ≡ sent
