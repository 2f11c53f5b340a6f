use Rattle.std.proofs.Common.{◌∙◌, ap, inl, inr}
use Rattle.std.specs.Prelude.{Err, Some}
use Rattle.std.proofs.lemmas.Result.{err_from_is_err_and}
use Rattle.a429_console.specs.RefusalText.{OrMemory}
use Rattle.a429_console.specs.Tables.{IsTableRefusal}
use Rattle.a429_console.proofs.Refused.{failed, or_memory_weaker}
use Rattle.a429_given.specs.GivenPlans.{IsNoPlanIn}
use Rattle.a429_given.proofs.given_plans.followed.Goals as goal

pub returns-in_err-proposal : goal.returns-in_err-proposal
returns-in_err-proposal c =
    let none = IsNoPlanIn (Some c.args.text.now) c.args.table.now in
    let e = c.in_err-proposal.field-0.0 in
    let p = err_from_is_err_and c.from_residual.result c.from_residual.ensures.1 in
    failed c.from_residual.result _ (OrMemory none) e (p.1 ∙ ap Err p.2)
    (or_memory_weaker (IsTableRefusal c.args.table.now) none e (λ one. inl one) c.in_err-proposal.ensures)

pub returns-in-Ok : goal.returns-in-Ok
returns-in-Ok c = (c.stays_planned.ensures, c.in_ok-proposal.proposal, c.in_ok-proposal.ensures, c.in-Ok.ensures.followed)
