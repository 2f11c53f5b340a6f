use Rattle.a429_console.proofs.ReadingParts.{read_then, read_weaker}
use Rattle.std.proofs.Common.{◌∙◌, ◌∷◌, [], ap, inl, inr}
use Rattle.std.specs.Prelude.{Err}
use Rattle.std.proofs.lemmas.Result.{err_from_is_err_and}
use Rattle.a429_console.specs.FileReadings.{AreRead, IsFileRefusal}
use Rattle.a429_cert.specs.Judged.{IsVerdictOnBytes}
use Rattle.a429_cli.specs.Checks.{IsNoCheck, IsUnjudged, IsVerdictOf}
use Rattle.a429_console.specs.RefusalText.{OrMemory}
use Rattle.a429_console.proofs.Refused.{failed, matched_both, or_memory_weaker}
use Rattle.a429_cli.proofs.checks.verdict_on_files.Goals as goal

pub returns-in_err-table : goal.returns-in_err-table
returns-in_err-table g c =
    let e = c.in_err-table.field-0.0 in
    let p = err_from_is_err_and c.from_residual.result c.from_residual.ensures.1 in
    read_weaker c.in_err-table.ensures (λ file bad.
    let none = IsNoCheck file c.args.table.now c.args.plan.now in
    failed c.from_residual.result _ (OrMemory none) e (p.1 ∙ ap Err p.2)
    (or_memory_weaker (IsFileRefusal file c.args.table.now) none e (λ one. inl (inl one)) bad))

pub returns-in_err-text : goal.returns-in_err-text
returns-in_err-text g c =
    let plan = c.args.plan.now in
    let e = c.in_err-text.field-0.0 in
    let p = err_from_is_err_and c.from_residual-in_err-text.result c.from_residual-in_err-text.ensures.1 in
    read_then c.in_ok-table.ensures c.in_err-text.ensures (λ file read bad.
    let none = IsNoCheck file c.args.table.now plan in
    failed c.from_residual-in_err-text.result _ (OrMemory none) e (p.1 ∙ ap Err p.2)
    (or_memory_weaker (IsFileRefusal file plan) none e (λ one. inl (inr (c.in_ok-table.table.items, read, inl one))) bad))

pub returns : goal.returns
returns g c =
    let table = c.in_ok-table.table.items in
    let text = c.in_ok-text.text.items in
    let judged = rw c.deref.ensures.value at c.verdict_on.ensures in
    read_then c.in_ok-table.ensures c.in_ok-text.ensures (λ file first second.
    let read : AreRead file (c.args.table.now ∷ c.args.plan.now ∷ []) (table ∷ text ∷ []) = (first, (second, tt)) in
    matched_both c.verdict_on.result (IsVerdictOnBytes table text) (IsVerdictOf file c.args.table.now c.args.plan.now) (OrMemory (IsUnjudged table)) (OrMemory (IsNoCheck file c.args.table.now c.args.plan.now))
    (λ v is. (table, text, read, is))
    (λ e bad. or_memory_weaker (IsUnjudged table) (IsNoCheck file c.args.table.now c.args.plan.now) e (λ one. inr (table, text, read, one)) bad)
    judged)
