use Rattle.std.proofs.Common.{◌∙◌, ap, inl, inr}
use Rattle.std.specs.Prelude.{Err}
use Rattle.std.proofs.lemmas.Result.{err_from_is_err_and}
use Rattle.a429_slots.specs.Proposed.{Proposed}
use Rattle.a429_console.specs.RefusalText.{OrMemory}
use Rattle.a429_console.specs.Tables.{IsTableRefusal}
use Rattle.a429_console.proofs.Refused.{failed, matched_both, or_memory_weaker}
use Rattle.a429_cli.specs.Keeping.{IsKeptPlan, IsNoKeptPlan, IsToldPlan}
use Rattle.a429_cli.proofs.keeping.kept_plan.Goals as goal

pub returns-in_err-proposal : goal.returns-in_err-proposal
returns-in_err-proposal c =
    let none = IsNoKeptPlan c.args.table.now c.args.earlier.now in
    let e = c.in_err-proposal.field-0.0 in
    let p = err_from_is_err_and c.from_residual.result c.from_residual.ensures.1 in
    failed c.from_residual.result _ (OrMemory none) e (p.1 ∙ ap Err p.2)
    (or_memory_weaker (IsTableRefusal c.args.table.now) none e (λ one. inl one) c.in_err-proposal.ensures)

pub returns-in-Ok : goal.returns-in-Ok
returns-in-Ok c =
    let table = c.args.table.now in
    let earlier = c.args.earlier.now in
    let q = c.in_ok-proposal.proposal in
    let kept : Proposed = c.keep.new.proposal in
    matched_both c.told_kept.result (λ reply. IsToldPlan c.args.form kept reply.status reply.bytes.items) (λ reply. IsKeptPlan c.args.form table earlier reply.status reply.bytes.items)
    (OrMemory (λ refusal. ⊥)) (OrMemory (IsNoKeptPlan table earlier))
    (λ reply is. (q, kept, c.in_ok-proposal.ensures, c.in-Ok.ensures.kept, is))
    (λ e bad. or_memory_weaker (λ refusal. ⊥) (IsNoKeptPlan table earlier) e (λ none. absurd none) bad)
    c.told_kept.ensures
