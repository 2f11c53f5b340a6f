use Rattle.std.proofs.Common.{◌∙◌, ap}
use Rattle.std.specs.Prelude.{Err}
use Rattle.std.proofs.lemmas.Result.{err_from_is_err_and}
use Rattle.a429_console.specs.RefusalText.{OrMemory}
use Rattle.a429_console.proofs.Refused.{failed}
use Rattle.a429_recordings.specs.JudgeReplies.{IsNoRecording, aligned_by, files_of}
use Rattle.a429_recordings.proofs.judge.judge_words.Goals as goal

pub returns-in_err-judge-clause-printed : goal.returns-in_err-judge-clause-printed
returns-in_err-judge-clause-printed g c =
    let p = err_from_is_err_and c.from_residual.result c.from_residual.ensures.1 in
    failed c.from_residual.result _ (OrMemory (IsNoRecording c.args.proposal.now (aligned_by c.args.found (files_of c.args.input)) c.args.input.terms.reading)) c.in_err-judge.field-0.0 (p.1 ∙ ap Err p.2) c.in_err-judge.ensures.recorded

pub returns-clause-printed : goal.returns-clause-printed
returns-clause-printed g c = record {
  recording = c.in_ok-judge.judge.noted;
  recorded = c.in_ok-judge.ensures.recorded.recorded;
  text = c.in_ok-judge_sheet.ensures.0;
  finds = c.in_ok-judge_sheet.ensures.1;
}
