-- Tables as a command reads them: the proposal of a table, or why there is none (vocabulary of contracts).
use Rattle.std.specs.Prelude.{◌≡◌, ℕ, true, List, Result, MatchResult, Ok, Err, string_bytes}
use Rattle.a429_equipment.specs.TableRecord.{TableRecord}
use Rattle.a429_equipment.specs.SameStation.{same_station}
use Rattle.a429_table.specs.Reading.{reading}
use Rattle.a429_slots.specs.Planned.{HasOwnLayout, IsPlanOf}
use Rattle.a429_slots.specs.Proposed.{Proposed}
use Rattle.a429_slots.specs.Faults.{IsFaultOf}
use Rattle.a429_slots.specs.declared.planner.PlanFault.TheVariants as plan
use Rattle.a429_console.specs.FileReadings.{printable_name}
use Rattle.a429_console.specs.Names.{group_name, output_name}
use Rattle.a429_console.specs.RefusalText.{OrMemory}
use Rattle.a429_console.specs.declared.refusals.CommandRefusal.{CommandRefusal}
use Rattle.a429_console.specs.declared.refusals.CommandRefusal.TheVariants as refused

-- a station that the table's bytes state, with its plan of the own layout
abbrev pub IsProposedBy : List ℕ → Proposed → Type 0
IsProposedBy table q = (reading table ≡ Ok q.station) × IsPlanOf q.station q.plan × HasOwnLayout q.station q.plan

-- a table whose plan a station takes: it has a plan, and is of that station
abbrev pub IsTakenBy : TableRecord → List ℕ → Type 0
IsTakenBy t table = (q : Proposed) × IsProposedBy table q × (same_station t q.station ≡ true)

-- the fault of a table
abbrev pub IsTableFault : List ℕ → CommandRefusal → Type 0
IsTableFault table (refused.Table kind place) = reading table ≡ Err (kind, place)
IsTableFault table _ = ⊥

-- an unfit output of a group, by the names of the group and of its source
abbrev pub IsUnfitNamed : TableRecord → ℕ → ℕ → CommandRefusal → Type 0
IsUnfitNamed t g o (refused.Unfit group source) = (group ≡ group_name t g) × (source ≡ output_name t g o)
IsUnfitNamed t g o _ = ⊥

-- the first fault of a station's plan
abbrev pub IsPlanRefusal : TableRecord → CommandRefusal → Type 0
IsPlanRefusal t (refused.Unfit group source) =
    (g : ℕ) × (o : ℕ) × IsFaultOf t (plan.Unfit g o) × (group ≡ group_name t g) × (source ≡ output_name t g o)
IsPlanRefusal t (refused.TooManyBuses group needed) = (g : ℕ) × IsFaultOf t (plan.TooManyBuses g needed) × (group ≡ group_name t g)
IsPlanRefusal t _ = ⊥

-- the first fault of a table, otherwise of its station's plan
abbrev pub IsTableRefusal : List ℕ → CommandRefusal → Type 0
IsTableRefusal table (refused.Table kind place) = reading table ≡ Err (kind, place)
IsTableRefusal table refusal = (t : TableRecord) × (reading table ≡ Ok t) × IsPlanRefusal t refusal

-- what reading and planning a table gives: its proposal, or its refusal
abbrev pub IsProposing : List ℕ → Result Proposed CommandRefusal → Type 0
IsProposing table result = MatchResult result (IsProposedBy table) (OrMemory (IsTableRefusal table))

-- the refusal of a group that is not there has its name, in one line
abbrev pub IsGroupRefusal : List ℕ → CommandRefusal → Type 0
IsGroupRefusal name (refused.Group told) = string_bytes told ≡ printable_name name
IsGroupRefusal name _ = ⊥
