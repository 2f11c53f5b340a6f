use Rattle.std.proofs.Common.{◌∙◌, ap, inl, inr}
use Rattle.std.specs.Prelude.{Err}
use Rattle.std.proofs.lemmas.Result.{err_from_is_err_and}
use Rattle.a429_console.specs.RefusalText.{OrMemory}
use Rattle.a429_given.specs.GivenPlans.{IsNoGivenPlan}
use Rattle.a429_given.specs.GivenTables.{table_texts}
use Rattle.a429_console.specs.declared.refusals.CommandRefusal.TheVariants as refused
use Rattle.a429_console.proofs.Refused.{failed, or_memory_weaker}
use Rattle.a429_cli.specs.Findings.{IsNoDiffBetween}
use Rattle.a429_cli.proofs.diff.diff_between.Goals as goal

pub returns-in_err-first : goal.returns-in_err-first
returns-in_err-first c =
    let none = IsNoDiffBetween (table_texts c.args.table.now) (table_texts c.args.other.now) in
    let e = c.in_err-first.field-0.0 in
    let p = err_from_is_err_and c.from_residual.result c.from_residual.ensures.1 in
    failed c.from_residual.result _ (OrMemory none) e (p.1 ∙ ap Err p.2)
    (or_memory_weaker (IsNoGivenPlan (table_texts c.args.table.now)) none e (λ one. inl one) c.in_err-first.ensures.given)

pub returns-in_err-second : goal.returns-in_err-second
returns-in_err-second c =
    let none = IsNoDiffBetween (table_texts c.args.table.now) (table_texts c.args.other.now) in
    let e = c.in_err-second.field-0.0 in
    let p = err_from_is_err_and c.from_residual-in_err-second.result c.from_residual-in_err-second.ensures.1 in
    failed c.from_residual-in_err-second.result _ (OrMemory none) e (p.1 ∙ ap Err p.2)
    (or_memory_weaker (IsNoGivenPlan (table_texts c.args.other.now)) none e (λ one. inr (c.in_ok-first.first, c.in_ok-first.ensures.given, one)) c.in_err-second.ensures)

pub returns-in_err-diff_of : goal.returns-in_err-diff_of
returns-in_err-diff_of c =
    let p = err_from_is_err_and c.from_residual-in_err-diff_of.result c.from_residual-in_err-diff_of.ensures.1 in
    failed c.from_residual-in_err-diff_of.result _ (OrMemory (IsNoDiffBetween (table_texts c.args.table.now) (table_texts c.args.other.now))) refused.Memory (p.1 ∙ ap Err p.2) tt

pub returns : goal.returns
returns c =
    let a = c.in_ok-first.first in
    let b = c.in_ok-second.second in
    (a, b, c.in_ok-first.ensures.given, c.in_ok-second.ensures, c.in_ok-diff_of.ensures)
