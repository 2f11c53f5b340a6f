use Rattle.std.proofs.Common.{◌∙◌, ap}
use Rattle.std.specs.Prelude.{Err}
use Rattle.std.proofs.lemmas.Result.{err_from_is_err_and}
use Rattle.a429_console.proofs.Refused.{failed}
use Rattle.a429_console.specs.RefusalText.{OrMemory}
use Rattle.a429_console.specs.declared.refusals.CommandRefusal.TheVariants as refused
use Rattle.a429_given.specs.GivenTables.{table_texts}
use Rattle.a429_cli.specs.Findings.{IsNoDiffBetween}
use Rattle.a429_cli.proofs.diff.stamped_diff.Goals as goal

pub returns-in_err-reply : goal.returns-in_err-reply
returns-in_err-reply c =
    let p = err_from_is_err_and c.from_residual.result c.from_residual.ensures.1 in
    failed c.from_residual.result _ (OrMemory (IsNoDiffBetween (table_texts c.args.table.now) (table_texts c.args.other.now))) c.in_err-reply.field-0.0 (p.1 ∙ ap Err p.2) c.in_err-reply.ensures

pub returns-in_err-stamped_both : goal.returns-in_err-stamped_both
returns-in_err-stamped_both c =
    let p = err_from_is_err_and c.from_residual-in_err-stamped_both.result c.from_residual-in_err-stamped_both.ensures.1 in
    failed c.from_residual-in_err-stamped_both.result _ (OrMemory (IsNoDiffBetween (table_texts c.args.table.now) (table_texts c.args.other.now))) refused.Memory (p.1 ∙ ap Err p.2) tt
