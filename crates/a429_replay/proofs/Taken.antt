-- Tables whose plans a station takes.
use Rattle.std.proofs.Common.{◌≡◌, ◌∙◌, ℕ, true, List, sym, subst, refl}
use Rattle.std.specs.Prelude.{Ok}
use Rattle.a429_word.proofs.Lists.{same_Ok}
use Rattle.a429_equipment.specs.TableRecord.{TableRecord}
use Rattle.a429_equipment.specs.SameStation.{same_station}
use Rattle.a429_table.specs.Reading.{reading}
use Rattle.a429_slots.specs.OnePlan.{PlansHaveNoFault}
use Rattle.a429_slots.specs.Planned.{IsPlanOf}
use Rattle.a429_slots.specs.Proposed.{Proposed}
use Rattle.a429_slots.specs.declared.planner.PlanFault.TheVariants as plan
use Rattle.a429_console.specs.RefusalText.{OrMemory}
use Rattle.a429_console.specs.Tables.{IsPlanRefusal, IsProposedBy, IsTableRefusal, IsTakenBy}
use Rattle.a429_console.specs.declared.refusals.CommandRefusal.{CommandRefusal}
use Rattle.a429_console.specs.declared.refusals.CommandRefusal.TheVariants as refused

-- what a table states is one
pub one_station : (table : List ℕ) (q : Proposed) (t : TableRecord) → IsProposedBy table q → reading table ≡ Ok t → q.station ≡ t
one_station table q t is reads = same_Ok q.station t (sym is.0 ∙ reads)

plan_unrefused : PlansHaveNoFault → (table : List ℕ) (q : Proposed) (t : TableRecord) (refusal : CommandRefusal) → IsProposedBy table q → reading table ≡ Ok t → IsPlanRefusal t refusal → ⊥
plan_unrefused law table q t (refused.Unfit group source) is reads (g, o, fault, named, sourced) =
    let none : plan.Unfit g o ≡ plan.NoMemory = law t q.plan (plan.Unfit g o) (subst (λ (e : TableRecord). IsPlanOf e q.plan) (one_station table q t is reads) is.1) fault in cc
plan_unrefused law table q t (refused.TooManyBuses group needed) is reads (g, fault, named) =
    let none : plan.TooManyBuses g needed ≡ plan.NoMemory = law t q.plan (plan.TooManyBuses g needed) (subst (λ (e : TableRecord). IsPlanOf e q.plan) (one_station table q t is reads) is.1) fault in cc
plan_unrefused law table q t _ is reads none = none

-- a table with a plan is not refused
pub unrefused : PlansHaveNoFault → (table : List ℕ) (q : Proposed) (refusal : CommandRefusal) → IsProposedBy table q → IsTableRefusal table refusal → ⊥
unrefused law table q (refused.Table kind place) is fault = let reads = is.0 in cc
unrefused law table q refused.Memory is why = plan_unrefused law table q why.0 refused.Memory is why.1 why.2
unrefused law table q refusal is why = plan_unrefused law table q why.0 refusal is why.1 why.2

-- if a table that a station takes is not proposed, an allocation failed
pub no_cause : PlansHaveNoFault → (t : TableRecord) (table : List ℕ) (refusal : CommandRefusal) → IsTakenBy t table → OrMemory (IsTableRefusal table) refusal → refusal ≡ refused.Memory
no_cause law t table refused.Memory taken why = refl
no_cause law t table refusal (q, is, same) why = absurd (unrefused law table q refusal is why)

-- a table that a station takes is of that station
pub of_station : (t : TableRecord) (table : List ℕ) (u : TableRecord) → IsTakenBy t table → reading table ≡ Ok u → same_station t u ≡ true
of_station t table u (q, is, same) reads = subst (λ (e : TableRecord). same_station t e ≡ true) (one_station table q u is reads) same
