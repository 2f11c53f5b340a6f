use Rattle.std.proofs.Common.{◌∙◌, ◌∷◌, [], ap, inl, inr}
use Rattle.std.specs.Prelude.{Err}
use Rattle.std.proofs.lemmas.Result.{err_from_is_err_and}
use Rattle.a429_console.specs.FileReadings.{AreRead, IsFileRefusal}
use Rattle.a429_console.specs.RefusalText.{OrMemory}
use Rattle.a429_console.proofs.ReadingParts.{read_then, read_weaker}
use Rattle.a429_console.proofs.Refused.{failed, matched_both, or_memory_weaker}
use Rattle.a429_cli.specs.Keeping.{IsKeptOf, IsKeptPlan, IsNoKept, IsNoKeptPlan}
use Rattle.a429_cli.proofs.keeping.kept_reply.Goals as goal

pub returns-in_err-table : goal.returns-in_err-table
returns-in_err-table g c =
    let e = c.in_err-table.field-0.0 in
    let p = err_from_is_err_and c.from_residual.result c.from_residual.ensures.1 in
    read_weaker c.in_err-table.ensures (λ file bad.
    let none = IsNoKept file c.args.table.now c.args.earlier.now in
    failed c.from_residual.result _ (OrMemory none) e (p.1 ∙ ap Err p.2)
    (or_memory_weaker (IsFileRefusal file c.args.table.now) none e (λ one. inl (inl one)) bad))

pub returns-in_err-earlier : goal.returns-in_err-earlier
returns-in_err-earlier g c =
    let e = c.in_err-earlier.field-0.0 in
    let p = err_from_is_err_and c.from_residual-in_err-earlier.result c.from_residual-in_err-earlier.ensures.1 in
    read_then c.in_ok-table.ensures c.in_err-earlier.ensures (λ file read bad.
    let none = IsNoKept file c.args.table.now c.args.earlier.now in
    failed c.from_residual-in_err-earlier.result _ (OrMemory none) e (p.1 ∙ ap Err p.2)
    (or_memory_weaker (IsFileRefusal file c.args.earlier.now) none e (λ one. inl (inr (c.in_ok-table.table.items, read, inl one))) bad))

pub returns : goal.returns
returns g c =
    let a = c.in_ok-table.table.items in
    let b = c.in_ok-earlier.earlier.items in
    let kept = rw (c.deref.ensures.value, c.deref-2.ensures.value) at c.kept_plan.ensures in
    read_then c.in_ok-table.ensures c.in_ok-earlier.ensures (λ file first second.
    let read : AreRead file (c.args.table.now ∷ c.args.earlier.now ∷ []) (a ∷ b ∷ []) = (first, (second, tt)) in
    matched_both c.kept_plan.result (λ reply. IsKeptPlan c.args.form a b reply.status reply.bytes.items) (λ reply. IsKeptOf c.args.form file c.args.table.now c.args.earlier.now reply.status reply.bytes.items)
    (OrMemory (IsNoKeptPlan a b)) (OrMemory (IsNoKept file c.args.table.now c.args.earlier.now))
    (λ reply is. (a, b, read, is))
    (λ e bad. or_memory_weaker (IsNoKeptPlan a b) (IsNoKept file c.args.table.now c.args.earlier.now) e (λ one. inr (a, b, read, one)) bad)
    kept)
