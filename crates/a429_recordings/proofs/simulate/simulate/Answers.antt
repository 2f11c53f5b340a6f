use Rattle.std.proofs.Common.{◌++◌, ◌∙◌, ◌∷◌, [], refl, inl, inr, subst, sym}
use Rattle.std.proofs.lemmas.Result.{IfOk-weaker}
use Rattle.a429_console.specs.RefusalText.{refusal_line}
use Rattle.a429_console.proofs.ReadingParts.{read_weaker}
use Rattle.a429_console.proofs.Refused.{both_ok, or_memory_weaker, told_or_memory}
use Rattle.a429_arguments.specs.Requests.{asked_of}
use Rattle.a429_given.specs.GivenTables.{named_table}
use Rattle.a429_recordings.specs.CloseWords.{AreSpaced}
use Rattle.a429_recordings.specs.LogViews.{whole_view}
use Rattle.a429_recordings.specs.SimulationReplies.{IsSimulationRefusal, IsUnreadFile, IsUnsimulated, files_of}
use Rattle.a429_recordings.specs.Timeline.{end_of}
use Rattle.a429_recordings.proofs.SimulationPrinted.{simulated_reply}
use Rattle.a429_recordings.proofs.simulate.simulate.Goals as goal

pub returns-in-Err-clause-simulated : goal.returns-in-Err-clause-simulated
returns-in-Err-clause-simulated g c = read_weaker c.in-Err.ensures (λ file bad.
    let r = asked_of c.args.asked.now in
    let form = c.of-form.result in
    let begun = IsSimulationRefusal file (named_table r) (r.second ∷ r.more) (whole_view r.given) form in
    let why = or_memory_weaker (IsUnreadFile file (named_table r) (r.second ∷ r.more)) begun c.in-Err.refusal (λ unread. inl unread) bad in
    both_ok c.refuse.result _ _ (λ status is line. (refusal_line line.0 ++ 10 ∷ [], (form, c.of-form.ensures, inl (line.0, told_or_memory begun c.in-Err.refusal line.0 line.1 why, is, refl)), line.2)) c.refuse.ensures.status c.refuse.ensures.line)

pub returns-in-Ok-prepare-clause-simulated : goal.returns-in-Ok-prepare-clause-simulated
returns-in-Ok-prepare-clause-simulated g c =
    let P = c.in-Ok-prepare.ensures.prepared in
    let q = c.in-Ok-prepare.simulation.writer.proposal in
    let r = asked_of c.args.asked.now in
    let form = c.of-form.result in
    let i = files_of c.in-Ok.input in
    (read_weaker c.in-Ok.ensures (λ file read. IfOk-weaker c.print_simulation.result _ _ (λ status put. (
      put.0,
      (form, c.of-form.ensures, simulated_reply file (named_table r) (r.second ∷ r.more) (whole_view r.given) form i q P.words read P.simulated status put.0 put.1),
      put.2,
    ))
    (c.print_simulation.ensures.printed P.words (end_of q P.words form.until) P.begin)))

pub returns-clause-simulated : goal.returns-clause-simulated
returns-clause-simulated g c = read_weaker c.in-Ok.ensures (λ file read.
    let i = files_of c.in-Ok.input in
    let r = asked_of c.args.asked.now in
    let form = c.of-form.result in
    let begun = IsSimulationRefusal file (named_table r) (r.second ∷ r.more) (whole_view r.given) form in
    let why = or_memory_weaker (IsUnsimulated i form) begun c.in-Err-prepare.refusal (λ cause. inr (i, read, cause)) c.in-Err-prepare.ensures.prepared in
    both_ok c.refuse-in-Err-prepare.result _ _ (λ status is line. (refusal_line line.0 ++ 10 ∷ [], (form, c.of-form.ensures, inl (line.0, told_or_memory begun c.in-Err-prepare.refusal line.0 line.1 why, is, refl)), line.2)) c.refuse-in-Err-prepare.ensures.status c.refuse-in-Err-prepare.ensures.line)

pub returns-in-Err-clause-silent : goal.returns-in-Err-clause-silent
returns-in-Err-clause-silent g c = read_weaker c.in-Err.ensures (λ file bad plain spaced. refl)

pub returns-in-Ok-prepare-clause-silent : goal.returns-in-Ok-prepare-clause-silent
returns-in-Ok-prepare-clause-silent g c =
    let P = c.in-Ok-prepare.ensures.prepared in
    let q = c.in-Ok-prepare.simulation.writer.proposal in
    read_weaker c.in-Ok.ensures (λ file read plain spaced.
    let words : AreSpaced P.words = spaced c.of-form.result c.of-form.ensures (files_of c.in-Ok.input) q P.words read P.simulated in
    c.note_close_words.ensures (subst AreSpaced (sym P.begin.timeline.words_are) words) ∙ c.in-Ok-prepare.ensures.silent (plain c.of-form.result.reading c.of-form.ensures.reading (files_of c.in-Ok.input).logs read.1))

pub returns-clause-silent : goal.returns-clause-silent
returns-clause-silent g c =
    read_weaker c.in-Ok.ensures (λ file read plain spaced. c.in-Err-prepare.ensures.silent (plain c.of-form.result.reading c.of-form.ensures.reading (files_of c.in-Ok.input).logs read.1))
