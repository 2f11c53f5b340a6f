use Rattle.std.proofs.Common.{◌∙◌, ap}
use Rattle.std.specs.Prelude.{Err}
use Rattle.std.proofs.lemmas.Result.{err_from_is_err_and}
use Rattle.a429_console.specs.RefusalText.{OrMemory}
use Rattle.a429_console.proofs.ReadingParts.{read_weaker}
use Rattle.a429_console.proofs.Refused.{failed, matched_both, or_memory_weaker}
use Rattle.a429_cli.specs.Checks.{IsCheckOf, IsNoCheck, IsVerdictReply}
use Rattle.a429_cli.proofs.checks.check_reply.Goals as goal

pub returns-in_err-verdict : goal.returns-in_err-verdict
returns-in_err-verdict g c =
    let e = c.in_err-verdict.field-0.0 in
    let p = err_from_is_err_and c.from_residual.result c.from_residual.ensures.1 in
    read_weaker c.in_err-verdict.ensures (λ file bad. failed c.from_residual.result _ (OrMemory (IsNoCheck file c.args.table.now c.args.plan.now)) e (p.1 ∙ ap Err p.2) bad)

pub returns : goal.returns
returns g c =
    let v = c.in_ok-verdict.verdict in
    read_weaker c.in_ok-verdict.ensures (λ file is.
    let none = IsNoCheck file c.args.table.now c.args.plan.now in
    matched_both c.verdict_reply.result (λ reply. IsVerdictReply c.args.form v reply.status reply.bytes.items) (λ reply. IsCheckOf file c.args.form c.args.table.now c.args.plan.now reply.status reply.bytes.items)
    (OrMemory (λ refusal. ⊥)) (OrMemory none) (λ reply said. (v, is, said)) (λ e bad. or_memory_weaker (λ refusal. ⊥) none e (λ no. absurd no) bad) c.verdict_reply.ensures)
