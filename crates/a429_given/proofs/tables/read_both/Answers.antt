use Rattle.std.proofs.Common.{◌∙◌, ap, inl, inr, refl}
use Rattle.std.specs.Prelude.{Err, Some}
use Rattle.std.proofs.lemmas.Result.{err_from_is_err_and}
use Rattle.a429_console.proofs.ReadingParts.{read_then, read_weaker}
use Rattle.a429_console.proofs.Refused.{failed, or_memory_weaker}
use Rattle.a429_console.specs.FileReadings.{IsFileRefusal}
use Rattle.a429_console.specs.RefusalText.{OrMemory}
use Rattle.a429_given.specs.GivenTables.{IsTableUnread, TableTexts}
use Rattle.a429_given.proofs.tables.read_both.Goals as goal

pub returns-in_err-table : goal.returns-in_err-table
returns-in_err-table g c =
    let names : TableTexts = record { table = c.args.table.now; plan = Some c.args.plan.now } in
    let e = c.in_err-table.field-0.0 in
    let p = err_from_is_err_and c.from_residual.result c.from_residual.ensures.1 in
    read_weaker c.in_err-table.ensures (λ file bad. failed c.from_residual.result _ (OrMemory (IsTableUnread file names)) e (p.1 ∙ ap Err p.2)
    (or_memory_weaker (IsFileRefusal file c.args.table.now) (IsTableUnread file names) e (λ one. inl one) bad))

pub returns-in_err-plan : goal.returns-in_err-plan
returns-in_err-plan g c =
    let names : TableTexts = record { table = c.args.table.now; plan = Some c.args.plan.now } in
    let e = c.in_err-plan.field-0.0 in
    let p = err_from_is_err_and c.from_residual-in_err-plan.result c.from_residual-in_err-plan.ensures.1 in
    read_then c.in_ok-table.ensures c.in_err-plan.ensures (λ file read bad.
    failed c.from_residual-in_err-plan.result _ (OrMemory (IsTableUnread file names)) e (p.1 ∙ ap Err p.2)
    (or_memory_weaker (IsFileRefusal file c.args.plan.now) (IsTableUnread file names) e (λ one. inr (c.in_ok-table.table.items, read, one)) bad))

pub returns : goal.returns
returns g c = read_then c.in_ok-table.ensures c.in_ok-plan.ensures (λ file first second. (first, (c.in_ok-plan.plan.items, refl, second)))
