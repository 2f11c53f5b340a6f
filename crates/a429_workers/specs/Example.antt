-- An example of one run (vocabulary of contracts). A transmitter sends the word of its only source once, and holds it back from then on until the
-- source has another, also after a change of plan.
use Rattle.std.specs.Prelude.{◌∷◌, [], ℕ, zero, suc, List, Option, Some, None}
use Rattle.a429_equipment.specs.declared.loads.Load.{Load}
use Rattle.a429_equipment.specs.declared.rows.SourceRow.{SourceRow}
use Rattle.a429_equipment.specs.TableRecord.{TableRecord}
use Rattle.a429_slots.specs.Tables.{SlotTable}
use Rattle.a429_slots.specs.Proposed.{Proposed}
use Rattle.a429_slots.specs.History.{Opening}
use Rattle.a429_workers.specs.Calls.{Call, Asks, Turns, Meets, Takes}

-- words of label 203 with any SDI, at the only receiver
abbrev pub source : SourceRow
source = record { name = 115 ∷ []; receiver = 0; label = 131; sdi = None }

-- one group, which sends each word of the source once
abbrev pub station : TableRecord
station = record {
  version = 2;
  rate = None;
  receivers = record { name = 114 ∷ []; filters = None } ∷ [];
  sources = source ∷ [];
  groups = record { name = 103 ∷ []; rate = 100000 } ∷ [];
  outputs = (record { source = 0; min_us = 360; max_us = 360; hold = Some 1 } ∷ []) ∷ [];
}

-- a frame of two slots on this number of buses; in both slots the source is on this bus
abbrev pub table_on : ℕ → ℕ → SlotTable
table_on buses bus = record {
  frame = 1;
  buses = buses;
  outputs = record { source = 0; place = record { bus = bus; offset = 0; period = 0 }; limits = record { hold = Some 1; spacing = 1 } } ∷ [];
  order = 0 ∷ [];
}

abbrev pub proposal : ℕ → SlotTable → Proposed
proposal number t = record { station = station; plan = record { groups = t ∷ []; number = number } }

-- one bus, and later two
abbrev pub table : SlotTable
table = table_on 1 0

abbrev pub first_plan : Proposed
first_plan = proposal 7 table

abbrev pub next_plan : Proposed
next_plan = proposal 8 (table_on 2 1)

abbrev pub opening : Opening
opening = record { proposal = first_plan; first = 5 }

abbrev pub later : List Proposed
later = next_plan ∷ []

-- the words 600000c1 and 000000c1
abbrev pub first_word : ℕ
first_word = 1610612929

abbrev pub next_word : ℕ
next_word = 193

abbrev pub heard : ℕ → List (ℕ × ℕ)
heard zero = (0, first_word) ∷ (0, next_word) ∷ []
heard (suc r) = []

-- what a load of the source finds at first, and what it finds later
abbrev pub first_load : Load
first_load = record { source = 0; count = 1; word = Some first_word }

abbrev pub next_load : Load
next_load = record { source = 0; count = 2; word = Some next_word }

-- a cell of the source, and a cell without an output
abbrev pub sent : ℕ → ℕ → Load → Option ℕ → Call
sent bus slot load word = Asks (Some (record { bus = bus; slot = slot; load = Some load; word = word }))

abbrev pub empty : ℕ → ℕ → Call
empty bus slot = Asks (Some (record { bus = bus; slot = slot; load = None; word = None }))

abbrev pub calls : List Call
calls =
    sent 0 5 first_load (Some first_word)
    ∷ sent 0 6 first_load None
    ∷ Asks None
    ∷ Turns (first_plan.plan ∷ next_plan.plan ∷ []) (Takes 8)
    ∷ empty 0 7
    ∷ sent 1 7 first_load None
    ∷ Meets (next_load ∷ [])
    ∷ empty 0 8
    ∷ sent 1 8 next_load (Some next_word)
    ∷ []
