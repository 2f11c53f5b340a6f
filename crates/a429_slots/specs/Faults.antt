-- The faults of planning (profile: docs/RULES.md, Plans).
use Rattle.std.specs.Prelude.{ℕ, List, ⊤}
use Rattle.a429_equipment.specs.TableRecord.{TableRecord}
use Rattle.a429_equipment.specs.declared.rows.OutputRow.{OutputRow}
use Rattle.a429_pack.specs.declared.demands.PackFault.{PackFault}
use Rattle.a429_pack.specs.declared.demands.PackFault.TheVariants as group
use Rattle.a429_slots.specs.Planned.{IsFirstUnfit, NeedsTooMany, IsFirstFaulty}
use Rattle.a429_slots.specs.declared.planner.PlanFault.{PlanFault}
use Rattle.a429_slots.specs.declared.planner.PlanFault.TheVariants as plan

-- the fault is one of the table: its group is the first that cannot be planned, and the fault is that group's
abbrev pub IsFaultOf : TableRecord → PlanFault → Type 0
IsFaultOf e (plan.Unfit g o) = IsFirstFaulty e g (λ rate rows. IsFirstUnfit rate rows o)
IsFaultOf e (plan.TooManyBuses g needed) = IsFirstFaulty e g (λ rate rows. NeedsTooMany rate rows needed)
IsFaultOf e plan.NoMemory = ⊤

-- of one group
abbrev pub IsGroupFault : ℕ → List OutputRow → PackFault → Type 0
IsGroupFault rate rows (group.Unfit o) = IsFirstUnfit rate rows o
IsGroupFault rate rows (group.TooManyBuses needed) = NeedsTooMany rate rows needed
IsGroupFault rate rows group.NoMemory = ⊤

abbrev pub of_group : ℕ → PackFault → PlanFault
of_group g (group.Unfit o) = plan.Unfit g o
of_group g (group.TooManyBuses needed) = plan.TooManyBuses g needed
of_group g group.NoMemory = plan.NoMemory
