use Rattle.std.proofs.Common.{◌∙◌, ap, inl, inr}
use Rattle.std.specs.Prelude.{Err}
use Rattle.std.proofs.lemmas.Result.{err_from_is_err_and}
use Rattle.a429_console.specs.Files.{logs_of}
use Rattle.a429_console.specs.RefusalText.{OrMemory}
use Rattle.a429_console.specs.Tables.{IsTableFault}
use Rattle.a429_console.proofs.PutReplies.{replies_weaker}
use Rattle.a429_console.proofs.Refused.{failed, or_memory_weaker}
use Rattle.a429_recordings.specs.Comparing.{AreCompared, IsCompared, IsUncompared}
use Rattle.a429_recordings.specs.Surveys.{IsWordFault}
use Rattle.a429_recordings.proofs.survey.compare.compare_bytes.Goals as goal

pub returns-in_err-equipment-clause-compared : goal.returns-in_err-equipment-clause-compared
returns-in_err-equipment-clause-compared g c =
    let table = c.args.table.now in
    let Stands = IsUncompared table c.args.form (logs_of c.args.logs.now) in
    let e = c.in_err-equipment.field-0.0 in
    let p = err_from_is_err_and c.from_residual.result c.from_residual.ensures.1 in
    failed c.from_residual.result _ (OrMemory Stands) e (p.1 ∙ ap Err p.2) (or_memory_weaker (IsTableFault table) Stands e (λ one. inl one) c.in_err-equipment.ensures)

pub returns-clause-compared : goal.returns-clause-compared
returns-clause-compared g c =
    let table = c.args.table.now in
    let logs = logs_of c.args.logs.now in
    let f = c.args.form in
    let t = c.in_ok-equipment.equipment in
    let is = c.in_ok-equipment.ensures in
    replies_weaker (AreCompared t f logs) (IsCompared table f logs) (IsWordFault f logs) (IsUncompared table f logs) c.compare_words.result
    (λ status bytes one. (t, is, one)) (λ e one. inr (t, is, one)) c.compare_words.ensures.replied
