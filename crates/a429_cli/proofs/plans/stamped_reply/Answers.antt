use Rattle.std.proofs.Common.{◌∙◌, ap}
use Rattle.std.specs.Prelude.{Err}
use Rattle.std.proofs.lemmas.Result.{err_from_is_err_and}
use Rattle.a429_console.proofs.Refused.{failed}
use Rattle.a429_console.specs.RefusalText.{OrMemory}
use Rattle.a429_console.specs.declared.refusals.CommandRefusal.TheVariants as refused
use Rattle.a429_given.specs.GivenTables.{table_texts}
use Rattle.a429_arguments.specs.Requests.{asked_of}
use Rattle.a429_cli.specs.Plans.{IsNoReplyToTable}
use Rattle.a429_cli.proofs.plans.stamped_reply.Goals as goal

pub returns-in_err-reply : goal.returns-in_err-reply
returns-in_err-reply c =
    let none = IsNoReplyToTable c.args.asked.now.verb (asked_of c.args.asked.now).given (table_texts c.args.table.now) in
    let p = err_from_is_err_and c.from_residual.result c.from_residual.ensures.1 in
    failed c.from_residual.result _ (OrMemory none) c.in_err-reply.field-0.0 (p.1 ∙ ap Err p.2) c.in_err-reply.ensures

pub returns-in_err-stamped : goal.returns-in_err-stamped
returns-in_err-stamped c =
    let none = IsNoReplyToTable c.args.asked.now.verb (asked_of c.args.asked.now).given (table_texts c.args.table.now) in
    let p = err_from_is_err_and c.from_residual-in_err-stamped.result c.from_residual-in_err-stamped.ensures.1 in
    failed c.from_residual-in_err-stamped.result _ (OrMemory none) refused.Memory (p.1 ∙ ap Err p.2) tt
