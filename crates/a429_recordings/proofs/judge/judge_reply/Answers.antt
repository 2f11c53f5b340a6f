use Rattle.std.proofs.Common.{◌∙◌, ap, inl, inr}
use Rattle.std.specs.Prelude.{Err}
use Rattle.std.proofs.lemmas.Result.{err_from_is_err_and}
use Rattle.a429_arguments.specs.Requests.{asked_of}
use Rattle.a429_console.specs.RefusalText.{OrMemory}
use Rattle.a429_console.proofs.PutReplies.{replies_weaker}
use Rattle.a429_console.proofs.ReadingParts.{read_weaker}
use Rattle.a429_console.proofs.Refused.{failed, or_memory_weaker}
use Rattle.a429_recordings.specs.JudgeReplies.{AreJudged, AreUnjudged, IsJudgement, IsUnjudged, IsUnreadBoxFile, files_of}
use Rattle.a429_recordings.proofs.judge.judge_reply.Goals as goal

pub returns-in_err-input-clause-answer : goal.returns-in_err-input-clause-answer
returns-in_err-input-clause-answer g c =
    let r = asked_of c.args.asked.now in
    let e = c.in_err-input.field-0.0 in
    let p = err_from_is_err_and c.from_residual.result c.from_residual.ensures.1 in
    read_weaker c.in_err-input.ensures (λ file bad. failed c.from_residual.result _ (OrMemory (IsUnjudged file r)) e (p.1 ∙ ap Err p.2)
    (or_memory_weaker (IsUnreadBoxFile file r) (IsUnjudged file r) e (λ one. inl one) bad))

pub returns-clause-answer : goal.returns-clause-answer
returns-clause-answer g c =
    let r = asked_of c.args.asked.now in
    let i = files_of c.in_ok-input.input in
    read_weaker c.in_ok-input.ensures (λ file are. replies_weaker (AreJudged i) (IsJudgement file r) (AreUnjudged i) (IsUnjudged file r) c.judge_input.result
    (λ status bytes one. (i, are, one)) (λ e one. inr (i, are, one)) c.judge_input.ensures.judged)

pub returns-clause-silent : goal.returns-clause-silent
returns-clause-silent g c =
    read_weaker c.in_ok-input.ensures (λ file are given none. c.judge_input.ensures.silent (are.3.aligned ∙ given, none (files_of c.in_ok-input.input) are))
