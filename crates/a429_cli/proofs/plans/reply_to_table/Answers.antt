use Rattle.std.proofs.Common.{◌∙◌, ap, inl, inr, subst, List, ℕ}
use Rattle.std.specs.Prelude.{Err}
use Rattle.std.proofs.lemmas.Result.{err_from_is_err_and}
use Rattle.a429_console.proofs.Refused.{failed, matched_both, or_memory_weaker}
use Rattle.a429_console.specs.RefusalText.{OrMemory}
use Rattle.a429_given.specs.GivenPlans.{IsNoGivenPlan}
use Rattle.a429_given.specs.GivenTables.{table_texts}
use Rattle.a429_arguments.specs.Requests.{asked_of}
use Rattle.a429_cli.specs.Plans.{IsNoReplyOnPlan, IsNoReplyToTable, IsReplyOnPlan, IsReplyToTable}
use Rattle.a429_console.specs.WholeReplies.{Replies}
use Rattle.a429_cli.proofs.plans.reply_to_table.Goals as goal

pub returns-in_err-proposal : goal.returns-in_err-proposal
returns-in_err-proposal c =
    let i = table_texts c.args.table.now in
    let none = IsNoReplyToTable c.args.asked.now.verb (asked_of c.args.asked.now).given i in
    let e = c.in_err-proposal.field-0.0 in
    let p = err_from_is_err_and c.from_residual.result c.from_residual.ensures.1 in
    failed c.from_residual.result _ (OrMemory none) e (p.1 ∙ ap Err p.2)
    (or_memory_weaker (IsNoGivenPlan i) none e (λ one. inl one) c.in_err-proposal.ensures.given)

pub returns : goal.returns
returns c =
    let v = c.args.asked.now.verb in
    let given = (asked_of c.args.asked.now).given in
    let i = table_texts c.args.table.now in
    let q = c.in_ok-proposal.proposal in
    let done = rw c.deref.ensures.value at c.reply_on_plan-reply.ensures in
    rw c.with_plan.ensures (
    matched_both c.reply_on_plan-reply.result (λ reply. IsReplyOnPlan v given i.table q reply.status reply.bytes.items) (λ reply. IsReplyToTable v given i reply.status reply.bytes.items)
    (OrMemory (IsNoReplyOnPlan v given q)) (OrMemory (IsNoReplyToTable v given i))
    (λ reply is. (q, c.in_ok-proposal.ensures.given, is))
    (λ e bad. or_memory_weaker (IsNoReplyOnPlan v given q) (IsNoReplyToTable v given i) e (λ one. inr (q, c.in_ok-proposal.ensures.given, one)) bad)
    done)
