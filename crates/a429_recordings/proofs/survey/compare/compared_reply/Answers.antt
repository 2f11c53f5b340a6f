use Rattle.std.proofs.Common.{◌∙◌, ◌∷◌, ap, inl, inr, refl}
use Rattle.std.specs.Prelude.{Err, Some}
use Rattle.std.proofs.lemmas.Result.{err_from_is_err_and}
use Rattle.a429_arguments.specs.Requests.{asked_of}
use Rattle.a429_console.specs.FileReadings.{IsFileRefusal, IsFirstUnreadLog}
use Rattle.a429_console.specs.Files.{logs_of}
use Rattle.a429_console.specs.RefusalText.{OrMemory}
use Rattle.a429_console.proofs.PutReplies.{replies_weaker}
use Rattle.a429_console.proofs.ReadingParts.{read_then, read_weaker}
use Rattle.a429_console.proofs.Refused.{failed, or_memory_weaker}
use Rattle.a429_recordings.specs.Comparing.{IsCompared, IsUncompared, SurveyedBy, UnsurveyedBy}
use Rattle.a429_recordings.proofs.survey.compare.compared_reply.Goals as goal

pub returns-in_err-table-clause-answer : goal.returns-in_err-table-clause-answer
returns-in_err-table-clause-answer g c =
    let r = asked_of c.args.asked.now in
    let name = c.args.table.now in
    let e = c.in_err-table.field-0.0 in
    let p = err_from_is_err_and c.from_residual.result c.from_residual.ensures.1 in
    read_weaker c.in_err-table.ensures (λ file bad. failed c.from_residual.result _ (OrMemory (UnsurveyedBy (Some name) file r)) e (p.1 ∙ ap Err p.2)
    (or_memory_weaker (IsFileRefusal file name) (UnsurveyedBy (Some name) file r) e (λ one. (c.of-form.result, c.of-form.ensures, inl (inl one))) bad))

pub returns-in_err-logs-clause-answer : goal.returns-in_err-logs-clause-answer
returns-in_err-logs-clause-answer g c =
    let r = asked_of c.args.asked.now in
    let name = c.args.table.now in
    let e = c.in_err-logs.field-0.0 in
    let p = err_from_is_err_and c.from_residual-in_err-logs.result c.from_residual-in_err-logs.ensures.1 in
    read_then c.in_ok-table.ensures c.in_err-logs.ensures
    (λ file read bad. failed c.from_residual-in_err-logs.result _ (OrMemory (UnsurveyedBy (Some name) file r)) e (p.1 ∙ ap Err p.2)
    (or_memory_weaker (IsFirstUnreadLog file (r.first ∷ r.more)) (UnsurveyedBy (Some name) file r) e
    (λ one. (c.of-form.result, c.of-form.ensures, inl (inr (c.in_ok-table.table.items, read, one)))) (rw c.deref.ensures.value at bad)))

pub returns-clause-answer : goal.returns-clause-answer
returns-clause-answer g c =
    let r = asked_of c.args.asked.now in
    let name = c.args.table.now in
    let f = c.of-form.result in
    let table = c.in_ok-table.table.items in
    let logs = logs_of c.in_ok-logs.logs.items in
    let compared = rw (c.deref-2.ensures.value, c.deref-3.ensures.value) at c.compare_bytes.ensures.compared in
    read_then c.in_ok-table.ensures c.in_ok-logs.ensures
    (λ file read all.
    let these = rw c.deref.ensures.value at all in
    replies_weaker (IsCompared table f logs) (SurveyedBy (Some name) file r) (IsUncompared table f logs) (UnsurveyedBy (Some name) file r) c.compare_bytes.result
    (λ status bytes one. (f, c.of-form.ensures, (table, logs, read, these, one))) (λ e one. (f, c.of-form.ensures, inr (table, logs, read, these, one))) compared)

pub returns-in_err-table-clause-silent : goal.returns-in_err-table-clause-silent
returns-in_err-table-clause-silent g c = read_weaker c.in_err-table.ensures (λ file bad none. refl)

pub returns-in_err-logs-clause-silent : goal.returns-in_err-logs-clause-silent
returns-in_err-logs-clause-silent g c = read_then c.in_ok-table.ensures c.in_err-logs.ensures (λ file read bad none. refl)

pub returns-clause-silent : goal.returns-clause-silent
returns-clause-silent g c =
    let silent = rw c.deref-3.ensures.value at c.compare_bytes.ensures.silent in
    read_then c.in_ok-table.ensures c.in_ok-logs.ensures
    (λ file read all none. silent (none c.of-form.result.reading c.of-form.ensures.reading (logs_of c.in_ok-logs.logs.items) (rw c.deref.ensures.value at all)))
