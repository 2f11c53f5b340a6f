use Rattle.std.proofs.Common.{◌∙◌, ap}
use Rattle.std.specs.Prelude.{Err}
use Rattle.std.proofs.lemmas.Result.{err_from_is_err_and}
use Rattle.a429_console.specs.Files.{logs_of}
use Rattle.a429_console.specs.RefusalText.{OrMemory}
use Rattle.a429_console.specs.declared.refusals.CommandRefusal.TheVariants as refused
use Rattle.a429_console.proofs.Refused.{failed}
use Rattle.a429_recordings.specs.Surveys.{IsWordFault}
use Rattle.a429_recordings.proofs.survey.compare.compare_words.Goals as goal

pub returns-in_err-survey-clause-replied : goal.returns-in_err-survey-clause-replied
returns-in_err-survey-clause-replied g c =
    let p = err_from_is_err_and c.from_residual.result c.from_residual.ensures.1 in
    failed c.from_residual.result _ (OrMemory (IsWordFault c.args.form (logs_of c.args.logs.now))) c.in_err-survey.field-0.0 (p.1 ∙ ap Err p.2) c.in_err-survey.ensures.survey

pub returns-in_err-sheet_of-clause-replied : goal.returns-in_err-sheet_of-clause-replied
returns-in_err-sheet_of-clause-replied g c =
    let p = err_from_is_err_and c.from_residual-in_err-sheet_of.result c.from_residual-in_err-sheet_of.ensures.1 in
    failed c.from_residual-in_err-sheet_of.result _ (OrMemory (IsWordFault c.args.form (logs_of c.args.logs.now))) refused.Memory (p.1 ∙ ap Err p.2) tt

pub returns-clause-replied : goal.returns-clause-replied
returns-clause-replied g c = (c.in_ok-survey.survey, c.in_ok-survey.ensures.survey, c.in_ok-sheet_of.ensures)
