-- A table has one plan of the own layout, or one fault (profile: docs/RULES.md, Plans).
use Rattle.std.specs.Prelude.{◌≡◌, ◌≢◌}
use Rattle.a429_equipment.specs.TableRecord.{TableRecord}
use Rattle.a429_slots.specs.declared.planner.PlanFault.{PlanFault}
use Rattle.a429_slots.specs.declared.planner.PlanFault.TheVariants.{NoMemory}
use Rattle.a429_slots.specs.Faults.{IsFaultOf}
use Rattle.a429_slots.specs.Planned.{HasOwnLayout, IsPlanOf}
use Rattle.a429_slots.specs.Tables.{PlanTable}

-- a table has one plan of the concentrator's own layout
abbrev pub PlansAreUnique : Type 0
PlansAreUnique = (e : TableRecord) (p q : PlanTable) → IsPlanOf e p → HasOwnLayout e p → IsPlanOf e q → HasOwnLayout e q → p ≡ q

-- and one fault, apart from `NoMemory`
abbrev pub FaultsAreUnique : Type 0
FaultsAreUnique = (e : TableRecord) (f g : PlanFault) → IsFaultOf e f → IsFaultOf e g → f ≢ NoMemory → g ≢ NoMemory → f ≡ g

-- a table that has a plan has no fault
abbrev pub PlansHaveNoFault : Type 0
PlansHaveNoFault = (e : TableRecord) (p : PlanTable) (f : PlanFault) → IsPlanOf e p → IsFaultOf e f → f ≡ NoMemory
