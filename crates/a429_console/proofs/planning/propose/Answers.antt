use Rattle.std.proofs.Common.{◌∙◌, ap, subst, sym}
use Rattle.std.specs.Prelude.{Err, Ok}
use Rattle.std.proofs.lemmas.Result.{err_from_is_err_and}
use Rattle.a429_slots.specs.Faults.{IsFaultOf}
use Rattle.a429_slots.specs.Planned.{HasOwnLayout, IsPlanOf}
use Rattle.a429_console.specs.RefusalText.{OrMemory}
use Rattle.a429_console.specs.Tables.{IsPlanRefusal, IsTableFault, IsTableRefusal}
use Rattle.a429_console.proofs.Refused.{failed, or_memory_weaker, plan_refuses, table_fault_refuses}
use Rattle.a429_console.proofs.planning.propose.Goals as goal

pub returns-in_err-equipment : goal.returns-in_err-equipment
returns-in_err-equipment c =
    let table = c.args.table.now in
    let e = c.in_err-equipment.field-0.0 in
    let p = err_from_is_err_and c.from_residual.result c.from_residual.ensures.1 in
    failed c.from_residual.result _ (OrMemory (IsTableRefusal table)) e (p.1 ∙ ap Err p.2)
    (or_memory_weaker (IsTableFault table) (IsTableRefusal table) e (table_fault_refuses table e) c.in_err-equipment.ensures)

pub returns-in-Ok : goal.returns-in-Ok
returns-in-Ok c =
    let planned = c.in-Ok.ensures.planned in (
      c.in_ok-equipment.ensures ∙ ap Ok (sym planned.0),
      subst (λ t. IsPlanOf t c.in-Ok.proposal.plan) (sym planned.0) planned.1,
      subst (λ t. HasOwnLayout t c.in-Ok.proposal.plan) (sym planned.0) c.in-Ok.ensures.own,
    )

pub returns-in-Err : goal.returns-in-Err
returns-in-Err c =
    let table = c.args.table.now in
    let t = c.in-Err.none.equipment in
    let fault = c.in-Err.ensures.fault in
    let r = c.refuse_plan.result in
    or_memory_weaker (IsPlanRefusal t) (IsTableRefusal table) r (plan_refuses table t r (c.in_ok-equipment.ensures ∙ ap Ok (sym fault.0))) (c.refuse_plan.ensures (subst (λ t. IsFaultOf t c.in-Err.none.fault) (sym fault.0) fault.1))
