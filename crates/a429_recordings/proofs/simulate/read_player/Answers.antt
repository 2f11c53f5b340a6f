use Rattle.std.proofs.Common.{◌≡◌, ◌∙◌, List, ℕ, ap, inl, inr, subst}
use Rattle.std.specs.Prelude.{Err, Ok}
use Rattle.std.proofs.lemmas.Result.{err_from_is_err_and}
use Rattle.a429_console.specs.Files.{logs_of}
use Rattle.a429_console.specs.RefusalText.{OrMemory}
use Rattle.a429_console.proofs.Refused.{failed, matched_both, or_memory_weaker}
use Rattle.a429_console.specs.declared.refusals.CommandRefusal.{CommandRefusal}
use Rattle.a429_console.specs.declared.refusals.CommandRefusal.TheVariants.{TooMuch}
use Rattle.a429_recordings.specs.SimulationLog.{IsLogFault, log_words}
use Rattle.a429_recordings.specs.SimulationReplies.{BeginsLog, BeginsNoLog, files_of}
use Rattle.a429_recordings.specs.SimulationRuns.{IsBegin}
use Rattle.a429_recordings.specs.Timeline.{SendsTooMuch, end_of}
use Rattle.a429_recordings.proofs.simulate.read_player.Goals as goal

pub returns-in_err-words-clause-player : goal.returns-in_err-words-clause-player
returns-in_err-words-clause-player g c =
    let s = c.args.writer.now in
    let i = files_of c.args.input.now in
    let reading = c.args.form.reading in
    let e = c.in_err-words.field-0.0 in
    let p = err_from_is_err_and c.from_residual.result c.from_residual.ensures.1 in
    let fault = subst (λ (ts : List (List ℕ)). OrMemory (IsLogFault s.names i.view reading ts) e) (ap logs_of c.deref.ensures.value) c.in_err-words.ensures.words in
    failed c.from_residual.result _ (OrMemory (BeginsNoLog s i c.args.form)) e (p.1 ∙ ap Err p.2)
    (or_memory_weaker (IsLogFault s.names i.view reading i.logs) (BeginsNoLog s i c.args.form) e (λ one. inl one) fault)

pub returns-clause-player : goal.returns-clause-player
returns-clause-player g c =
    let s = c.args.writer.now in
    let i = files_of c.args.input.now in
    let form = c.args.form in
    let words = c.in_ok-words.words.items in
    let last = end_of s.proposal words form.until in
    let its = subst (λ (ts : List (List ℕ)). log_words s.names i.view form.reading ts ≡ Ok words) (ap logs_of c.deref.ensures.value) c.in_ok-words.ensures.words in
    matched_both c.open.result (IsBegin s.proposal words last) (BeginsLog s i form)
    (OrMemory (λ (r : CommandRefusal). (r ≡ TooMuch) × SendsTooMuch s.proposal words last)) (OrMemory (BeginsNoLog s i form))
    (λ b is. (words, its, is))
    (λ e bad. or_memory_weaker (λ (r : CommandRefusal). (r ≡ TooMuch) × SendsTooMuch s.proposal words last) (BeginsNoLog s i form) e
    (λ long. inr (words, its, long.0, long.1)) bad)
    c.open.ensures
