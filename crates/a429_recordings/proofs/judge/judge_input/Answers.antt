use Rattle.std.proofs.Common.{◌∙◌, ap, inl, inr}
use Rattle.std.specs.Prelude.{Err}
use Rattle.std.proofs.lemmas.Result.{err_from_is_err_and}
use Rattle.a429_console.specs.RefusalText.{OrMemory}
use Rattle.a429_given.specs.GivenPlans.{IsNoGivenPlan}
use Rattle.a429_console.proofs.PutReplies.{replies_weaker}
use Rattle.a429_console.proofs.Refused.{failed, or_memory_weaker}
use Rattle.a429_recordings.specs.JudgeReplies.{AreJudged, AreUnjudged, IsJudgedOf, IsUnjudgedOf, files_of}
use Rattle.a429_recordings.proofs.judge.judge_input.Goals as goal

pub returns-in_err-proposal-clause-judged : goal.returns-in_err-proposal-clause-judged
returns-in_err-proposal-clause-judged g c =
    let i = files_of c.args.input in
    let e = c.in_err-proposal.field-0.0 in
    let p = err_from_is_err_and c.from_residual.result c.from_residual.ensures.1 in
    failed c.from_residual.result _ (OrMemory (AreUnjudged i)) e (p.1 ∙ ap Err p.2)
    (or_memory_weaker (IsNoGivenPlan i.table) (AreUnjudged i) e (λ one. inl one) c.in_err-proposal.ensures.given)

pub returns-clause-judged : goal.returns-clause-judged
returns-clause-judged g c =
    let i = files_of c.args.input in
    let q = c.in_ok-proposal.proposal in
    let proposed = c.in_ok-proposal.ensures.given in
    rw c.with_plan.ensures (replies_weaker (IsJudgedOf q i) (AreJudged i) (IsUnjudgedOf q i) (AreUnjudged i) c.judge_box-judged.result
    (λ status bytes one. (q, proposed, one)) (λ e one. inr (q, proposed, one)) c.judge_box-judged.ensures.judged)
