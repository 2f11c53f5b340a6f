-- A station with the planner of its board (vocabulary of contracts).
use Rattle.std.specs.Prelude.{ℕ, List}
use Rattle.a429_equipment.specs.TableRecord.{TableRecord}
use Rattle.a429_board.specs.Lists.{Planning}
use Rattle.a429_station.specs.Resubmitting.{Publishes, Running}

abbrev pub running : TableRecord → Planning → Running
running station planner = record { station = station; planner = planner }

-- the plan of a table was published under this number
abbrev pub HasPublished : TableRecord → Planning → List ℕ → Planning → ℕ → Type 0
HasPublished station before table after n = Publishes (running station before) table n (running station after)
