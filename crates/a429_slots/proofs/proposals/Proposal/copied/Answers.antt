use prog.Memory.{size}
use denote.Param.{layout, number, param}
use Rattle.std.proofs.Common.{◌≡◌, ◌∙◌, ◌^◌, ◌<◌, ◌≤◌, ℕ, arith, subst, sym}
use Rattle.a429_equipment.specs.TableRecord.{TableRecord}
use Rattle.a429_slots.specs.contracts.plans.Plan.{the_row}
use Rattle.a429_slots.specs.Planned.{IsPlanOf}
use Rattle.a429_slots.specs.Proposed.{Proposed}
use Rattle.a429_slots.specs.Tables.{PlanTable}
use Rattle.a429_slots.proofs.proposals.Proposal.copied.Goals as goal

-- a plan takes less than half of the addresses
plan_fits : (n : ℕ) → n ≤ 65536 → size (layout (the_row (param 0 (number n)))) < 2 ^ 63
plan_fits n few = omega arith

same_parts : (e f : TableRecord) (p q : PlanTable) → e ≡ f → p ≡ q → ◌≡◌ {A = Proposed} (record { station = e; plan = p }) (record { station = f; plan = q })
same_parts e f p q station plan = λ i. record { station = station i; plan = plan i }

pub copied-requires-2 : goal.copied-requires-2
copied-requires-2 g c = plan_fits g.row.N c.requires.size

same_plan : (g : _) (c : goal.In-Ok g) → c.in-Ok.plan.value ≡ c.self.inside.plan.value
same_plan g c = c.in-Ok.ensures.ok ∙ c.copied-2.ensures ∙ c.deref.ensures

pub invariant_of-result : goal.invariant_of-result
invariant_of-result g c =
    subst (λ (p : PlanTable). IsPlanOf c.in_ok-equipment.equipment p) (sym (same_plan g c))
    (subst (λ (e : TableRecord). IsPlanOf e c.self.inside.plan.value) (sym c.in_ok-equipment.ensures) c.self.invariant)

pub returns-in-Ok : goal.returns-in-Ok
returns-in-Ok g c =
    same_parts c.in_ok-equipment.equipment c.self.inside.equipment c.in-Ok.plan.value c.self.inside.plan.value c.in_ok-equipment.ensures (same_plan g c) ∙ c.self.view_is
