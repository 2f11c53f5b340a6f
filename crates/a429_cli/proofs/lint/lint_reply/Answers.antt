use Rattle.a429_console.proofs.ReadingParts.{read_weaker}
use Rattle.std.proofs.Common.{◌≡◌, ◌∙◌, ap, inl, inr, subst, List, ℕ}
use Rattle.std.specs.Prelude.{Err, Ok}
use Rattle.std.proofs.lemmas.Result.{err_from_is_err_and}
use Rattle.a429_table.specs.Reading.{reading}
use Rattle.a429_arguments.specs.Requests.{asked_of}
use Rattle.a429_console.specs.FileReadings.{IsFileRefusal}
use Rattle.a429_console.specs.RefusalText.{OrMemory}
use Rattle.a429_console.specs.Tables.{IsTableFault}
use Rattle.a429_console.specs.declared.refusals.CommandRefusal.TheVariants as refused
use Rattle.a429_console.proofs.Refused.{failed, or_memory_weaker}
use Rattle.a429_cli.specs.Findings.{IsNoLint}
use Rattle.a429_cli.proofs.lint.lint_reply.Goals as goal

pub returns-in_err-table : goal.returns-in_err-table
returns-in_err-table g c =
    let name = (asked_of c.args.asked.now).first in
    let e = c.in_err-table.field-0.0 in
    let p = err_from_is_err_and c.from_residual.result c.from_residual.ensures.1 in
    read_weaker c.in_err-table.ensures (λ file bad. failed c.from_residual.result _ (OrMemory (IsNoLint file name)) e (p.1 ∙ ap Err p.2)
    (or_memory_weaker (IsFileRefusal file name) (IsNoLint file name) e (λ one. inl one) bad))

pub returns-in_err-equipment : goal.returns-in_err-equipment
returns-in_err-equipment g c =
    let name = (asked_of c.args.asked.now).first in
    let table = c.in_ok-table.table.items in
    let e = c.in_err-equipment.field-0.0 in
    let p = err_from_is_err_and c.from_residual-in_err-equipment.result c.from_residual-in_err-equipment.ensures.1 in
    let bad = subst (λ (t : List ℕ). OrMemory (IsTableFault t) e) c.deref.ensures.value c.in_err-equipment.ensures in
    read_weaker c.in_ok-table.ensures (λ file read. failed c.from_residual-in_err-equipment.result _ (OrMemory (IsNoLint file name)) e (p.1 ∙ ap Err p.2)
    (or_memory_weaker (IsTableFault table) (IsNoLint file name) e (λ one. inr (table, read, one)) bad))

pub returns-in_err-stamped_lint : goal.returns-in_err-stamped_lint
returns-in_err-stamped_lint g c =
    let p = err_from_is_err_and c.from_residual-in_err-stamped_lint.result c.from_residual-in_err-stamped_lint.ensures.1 in
    read_weaker c.in_ok-table.ensures (λ file read. failed c.from_residual-in_err-stamped_lint.result _ (OrMemory (IsNoLint file (asked_of c.args.asked.now).first)) refused.Memory (p.1 ∙ ap Err p.2) tt)

pub returns : goal.returns
returns g c =
    let t = c.in_ok-equipment.equipment in
    let is = subst (λ (table : List ℕ). reading table ≡ Ok t) c.deref.ensures.value c.in_ok-equipment.ensures in
    let stamped = rw c.deref-2.ensures.value at c.in_ok-stamped_lint.ensures in
    read_weaker c.in_ok-table.ensures (λ file read. (c.in_ok-table.table.items, t, read, is, stamped))
