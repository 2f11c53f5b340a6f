-- Plans that are published while a station runs: of the tables that are submitted again, those of the same station
-- (profile: docs/RULES.md, Sending).
use Rattle.std.specs.Prelude.{◌≡◌, ◌≤◌, ◌+◌, ◌^◌, ◌++◌, ◌∷◌, [], ⊤, ℕ, true, false, List, Ok, Err, length, map}
use Rattle.std.specs.List.{AllByRecursion}
use mathlib.Core.List.{IsPrefix}
use Rattle.a429_equipment.specs.TableRecord.{TableRecord}
use Rattle.a429_table.specs.Reading.{reading}
use Rattle.a429_equipment.specs.Sound.{HaveOwnSources, IsSound}
use Rattle.a429_equipment.specs.SameStation.{same_station}
use Rattle.a429_table.specs.declared.fault.TableFault.{TableFault}
use Rattle.a429_table.specs.declared.fault.TableFault.TheVariants as table
use Rattle.a429_slots.specs.Tables.{PlanTable, frame_of, groups_of}
use Rattle.a429_slots.specs.Proposed.{Proposed}
use Rattle.a429_slots.specs.History.{Opening}
use Rattle.a429_slots.specs.Planned.{HasOwnLayout, IsPlanOf}
use Rattle.a429_slots.specs.Spacing.{IsOwnPlan}
use Rattle.a429_slots.specs.Faults.{IsFaultOf}
use Rattle.a429_slots.specs.declared.planner.PlanFault.{PlanFault}
use Rattle.a429_slots.specs.declared.planner.PlanFault.TheVariants as plan
use Rattle.a429_board.specs.declared.planner.BoardFault.{BoardFault}
use Rattle.a429_board.specs.declared.planner.BoardFault.TheVariants as board
use Rattle.a429_board.specs.Lists.{Planning, numbered}
use Rattle.a429_workers.specs.Runs.{ArePublished, plans_of}
use Rattle.a429_workers.specs.SentWords.{IsSpacedPlan}
use Rattle.a429_workers.specs.Transmitting.{IsKnownPlan}
use Rattle.a429_station.specs.declared.station.ReplanFault.{ReplanFault}
use Rattle.a429_station.specs.declared.station.ReplanFault.TheVariants as replan

-- a running station: its record, and the planner of its board
pub record Running : Type 0 where
  pub station : TableRecord
  pub planner : Planning

-- a station that begins with this plan at slot 0
abbrev pub opening : TableRecord → PlanTable → Opening
opening t p = record { proposal = record { station = t; plan = p }; first = 0 }

-- a frame of each group has at most 8192 slots on a bus (profile: docs/RULES.md, Limits)
abbrev pub HasFewSlots : PlanTable → Type 0
HasFewSlots p = AllByRecursion (λ t. frame_of t ≤ 8192) (groups_of p)

-- The planner's list is the opening plan and those of later proposals of the station, numbered on from it, each of its own table. Its plans send no
-- sources but the station's, whose outputs have sources of their own.
pub record IsLed (v : Running) : Type 0 where
  pub opened : PlanTable
  pub later : List Proposed
  pub plans : v.planner.list ≡ plans_of (opening v.station opened) later
  pub published : ArePublished (opening v.station opened) later
  pub own : AllByRecursion IsOwnPlan later
  pub own_sources : AllByRecursion HaveOwnSources v.station.outputs
  pub last : v.planner.last.number ≡ opened.number + length later
  pub known : AllByRecursion (IsKnownPlan v.station) v.planner.list
  pub small : AllByRecursion HasFewSlots v.planner.list

-- its board begins with the plan of its own table, and nothing was published yet
pub record IsBegun (v : Running) : Type 0 where
  pub planned : IsPlanOf v.station v.planner.last
  pub first : v.planner.list ≡ v.planner.last ∷ []

-- the station and its board stay, and plans are published after those before
pub record GoesOn (old new : Running) : Type 0 where
  pub station : new.station ≡ old.station
  pub book : new.planner.book ≡ old.planner.book
  pub plans : IsPrefix old.planner.list new.planner.list

-- what was done to a station of this table between its beginning and its end: it began with the first of these plans, and the others, each under its
-- number, in order, were published by then
pub record IsDoneBetween (did : Running → Running → Type 0) (t : TableRecord) (opened : PlanTable) (later : List Proposed) : Type 0 where
  pub begin : Running
  pub end : Running
  pub begun : IsBegun begin
  pub station : begin.station ≡ t
  pub opens : begin.planner.last ≡ opened
  pub list : end.planner.list ≡ opened ∷ map (λ q. q.plan) later
  pub done : did begin end

-- ---- laws

-- Each plan of a run is the plan of its own table, and the table's outputs have sources of their own. Then the plans
-- keep to the spacings of their outputs.
abbrev pub PlansOfRunsAreSpaced : Type 0
PlansOfRunsAreSpaced =
    (t : TableRecord) (opened : PlanTable) (later : List Proposed)
    → IsPlanOf t opened → AllByRecursion HaveOwnSources t.outputs → AllByRecursion IsOwnPlan later
    → AllByRecursion IsSpacedPlan (plans_of (opening t opened) later)

-- ---- a table that is submitted again

-- the bytes state the table of an equipment that can be planned
pub record IsPlanned (bytes : List ℕ) : Type 0 where
  pub record_of : TableRecord
  pub plan : PlanTable
  pub reads : reading bytes ≡ Ok record_of
  pub sound : IsSound record_of
  pub planned : IsPlanOf record_of plan
  pub own : HasOwnLayout record_of plan

-- it is of the same station, and its plan is the next, under this number
pub record Publishes (old : Running) (bytes : List ℕ) (number : ℕ) (new : Running) : Type 0 where
  pub of : IsPlanned bytes
  pub same : same_station old.station of.record_of ≡ true
  pub next : number ≡ old.planner.last.number + 1
  pub list : new.planner.list ≡ old.planner.list ++ numbered of.plan number ∷ []
  pub last : new.planner.last ≡ numbered of.plan number
  pub book : new.planner.book ≡ old.planner.book
  pub station : new.station ≡ old.station

-- the bytes state a table, and this is a fault of its plan
abbrev pub HasPlanFault : List ℕ → PlanFault → Type 0
HasPlanFault bytes fault = (e : TableRecord) × (reading bytes ≡ Ok e) × IsFaultOf e fault

-- why nothing is published; the first of these that is the case, unless memory ran out
abbrev pub IsReplanFault : Running → List ℕ → ReplanFault → Type 0
IsReplanFault v bytes (replan.Table (table.At kind place)) = reading bytes ≡ Err (kind, place)
IsReplanFault v bytes (replan.Table table.NoMemory) = ⊥
IsReplanFault v bytes (replan.Unfit g o) = HasPlanFault bytes (plan.Unfit g o)
IsReplanFault v bytes (replan.TooManyBuses g needed) = HasPlanFault bytes (plan.TooManyBuses g needed)
IsReplanFault v bytes replan.StationDiffers = (of : IsPlanned bytes) × (same_station v.station of.record_of ≡ false)
IsReplanFault v bytes replan.CountSpent = (of : IsPlanned bytes) × (same_station v.station of.record_of ≡ true) × (v.planner.last.number + 1 ≡ 2 ^ 64)
IsReplanFault v bytes replan.NoMemory = ⊤

-- ---- faults of the calls below, as its own

abbrev pub of_table : TableFault → ReplanFault
of_table (table.At kind place) = replan.Table (table.At kind place)
of_table table.NoMemory = replan.NoMemory

abbrev pub of_plan : PlanFault → ReplanFault
of_plan (plan.Unfit g o) = replan.Unfit g o
of_plan (plan.TooManyBuses g needed) = replan.TooManyBuses g needed
of_plan plan.NoMemory = replan.NoMemory

abbrev pub of_board : BoardFault → ReplanFault
of_board board.CountSpent = replan.CountSpent
of_board board.NoMemory = replan.NoMemory
