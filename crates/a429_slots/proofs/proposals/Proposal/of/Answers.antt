use Rattle.std.proofs.Common.{refl, subst, sym}
use Rattle.a429_slots.specs.Planned.{HasOwnLayout, IsPlanOf}
use Rattle.a429_slots.specs.Tables.{PlanTable}
use Rattle.a429_slots.proofs.proposals.Proposal.of.Goals as goal

pub invariant_of-result : goal.invariant_of-result
invariant_of-result g c = subst (λ (p : PlanTable). IsPlanOf c.args.equipment p) (sym c.in-Ok-new.ensures.ok) c.in-Ok.ensures.planned

pub returns-in-Ok-new-clause-planned : goal.returns-in-Ok-new-clause-planned
returns-in-Ok-new-clause-planned g c = (refl, subst (λ (p : PlanTable). IsPlanOf c.args.equipment p) (sym c.in-Ok-new.ensures.ok) c.in-Ok.ensures.planned)

pub returns-in-Ok-new-clause-own : goal.returns-in-Ok-new-clause-own
returns-in-Ok-new-clause-own g c = subst (λ (p : PlanTable). HasOwnLayout c.args.equipment p) (sym c.in-Ok-new.ensures.ok) c.in-Ok.ensures.own

pub returns-in-Err-new-clause-own : goal.returns-in-Err-new-clause-own
returns-in-Err-new-clause-own g c = tt

pub returns-in-Err-clause-own : goal.returns-in-Err-clause-own
returns-in-Err-clause-own g c = tt

pub returns-in-Ok-new-clause-fault : goal.returns-in-Ok-new-clause-fault
returns-in-Ok-new-clause-fault g c = tt

pub returns-in-Err-new-clause-planned : goal.returns-in-Err-new-clause-planned
returns-in-Err-new-clause-planned g c = tt

pub returns-in-Err-new-clause-fault : goal.returns-in-Err-new-clause-fault
returns-in-Err-new-clause-fault g c = (refl, tt)

pub returns-in-Err-clause-planned : goal.returns-in-Err-clause-planned
returns-in-Err-clause-planned g c = tt

pub returns-in-Err-clause-fault : goal.returns-in-Err-clause-fault
returns-in-Err-clause-fault g c = (refl, c.in-Err.ensures.fault)
