use Rattle.std.proofs.Common.{◌∙◌, ◌∷◌, Global, Vec, ap, inl, inr, ℕ}
use Rattle.std.specs.Prelude.{Err, None}
use Rattle.std.proofs.lemmas.Result.{err_from_is_err_and}
use Rattle.a429_arguments.specs.Requests.{asked_of}
use Rattle.a429_console.specs.FileReadings.{IsFirstUnreadLog}
use Rattle.a429_console.specs.Files.{logs_of}
use Rattle.a429_console.specs.RefusalText.{OrMemory}
use Rattle.a429_console.specs.declared.refusals.CommandRefusal.TheVariants as refused
use Rattle.a429_console.proofs.ReadingParts.{read_weaker}
use Rattle.a429_console.proofs.Refused.{failed, or_memory_weaker}
use Rattle.a429_recordings.specs.Comparing.{UnsurveyedBy}
use Rattle.a429_recordings.specs.Surveys.{IsWordFault}
use Rattle.a429_recordings.proofs.survey.plain_reply.Goals as goal

pub returns-in_err-logs-clause-answer : goal.returns-in_err-logs-clause-answer
returns-in_err-logs-clause-answer g c =
    let r = asked_of c.args.asked.now in
    let e = c.in_err-logs.field-0.0 in
    let p = err_from_is_err_and c.from_residual.result c.from_residual.ensures.1 in
    read_weaker c.in_err-logs.ensures (λ file bad. failed c.from_residual.result _ (OrMemory (UnsurveyedBy None file r)) e (p.1 ∙ ap Err p.2)
    (or_memory_weaker (IsFirstUnreadLog file (r.first ∷ r.more)) (UnsurveyedBy None file r) e
    (λ one. (c.of-form.result, c.of-form.ensures, inl one)) (rw c.deref.ensures.value at bad)))

pub returns-in_err-survey-clause-answer : goal.returns-in_err-survey-clause-answer
returns-in_err-survey-clause-answer g c =
    let r = asked_of c.args.asked.now in
    let f = c.of-form.result in
    let logs = logs_of c.in_ok-logs.logs.items in
    let e = c.in_err-survey.field-0.0 in
    let p = err_from_is_err_and c.from_residual-in_err-survey.result c.from_residual-in_err-survey.ensures.1 in
    let bad : OrMemory (IsWordFault f logs) e = rw c.deref-2.ensures.value at c.in_err-survey.ensures.survey in
    read_weaker c.in_ok-logs.ensures (λ file all. failed c.from_residual-in_err-survey.result _ (OrMemory (UnsurveyedBy None file r)) e (p.1 ∙ ap Err p.2)
    (or_memory_weaker (IsWordFault f logs) (UnsurveyedBy None file r) e (λ one. (f, c.of-form.ensures, inr (logs, rw c.deref.ensures.value at all, one))) bad))

pub returns-in_err-text_of-clause-answer : goal.returns-in_err-text_of-clause-answer
returns-in_err-text_of-clause-answer g c =
    let p = err_from_is_err_and c.from_residual-in_err-text_of.result c.from_residual-in_err-text_of.ensures.1 in
    read_weaker c.in_ok-logs.ensures (λ file all. failed c.from_residual-in_err-text_of.result _ (OrMemory (UnsurveyedBy None file (asked_of c.args.asked.now))) refused.Memory (p.1 ∙ ap Err p.2) tt)

pub returns-clause-answer : goal.returns-clause-answer
returns-clause-answer g c =
    let logs = logs_of c.in_ok-logs.logs.items in
    let words = rw c.deref-2.ensures.value at c.in_ok-survey.ensures.survey in
    read_weaker c.in_ok-logs.ensures (λ file all.
    let text = ap (λ (text : Vec ℕ Global). text.items) c.done.ensures.bytes ∙ c.in_ok-text_of.ensures in
    (c.of-form.result, c.of-form.ensures, (logs, c.in_ok-survey.survey, rw c.deref.ensures.value at all, words, text, c.done.ensures.status)))

pub returns-in_err-survey-clause-silent : goal.returns-in_err-survey-clause-silent
returns-in_err-survey-clause-silent g c =
    let silent = rw c.deref-2.ensures.value at c.in_err-survey.ensures.silent in
    read_weaker c.in_ok-logs.ensures (λ file all none. silent (none c.of-form.result.reading c.of-form.ensures.reading (logs_of c.in_ok-logs.logs.items) (rw c.deref.ensures.value at all)))

pub returns-in_err-text_of-clause-silent : goal.returns-in_err-text_of-clause-silent
returns-in_err-text_of-clause-silent g c =
    let silent = rw c.deref-2.ensures.value at c.in_ok-survey.ensures.silent in
    read_weaker c.in_ok-logs.ensures (λ file all none. silent (none c.of-form.result.reading c.of-form.ensures.reading (logs_of c.in_ok-logs.logs.items) (rw c.deref.ensures.value at all)))

pub returns-clause-silent : goal.returns-clause-silent
returns-clause-silent g c =
    let silent = rw c.deref-2.ensures.value at c.in_ok-survey.ensures.silent in
    read_weaker c.in_ok-logs.ensures (λ file all none. silent (none c.of-form.result.reading c.of-form.ensures.reading (logs_of c.in_ok-logs.logs.items) (rw c.deref.ensures.value at all)))
