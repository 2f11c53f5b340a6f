use Rattle.std.proofs.Common.{◌≡◌, ◌∙◌, ap, inl, inr, subst, List, ℕ}
use Rattle.std.specs.Prelude.{Err, Ok}
use Rattle.std.proofs.lemmas.Result.{err_from_is_err_and}
use Rattle.a429_console.specs.RefusalText.{OrMemory}
use Rattle.a429_console.specs.Names.{Naming}
use Rattle.a429_given.specs.GivenPlans.{IsNoGivenPlan}
use Rattle.a429_console.proofs.Refused.{failed, or_memory_weaker}
use Rattle.a429_recordings.specs.SimulationLog.{IsLogFault, log_words}
use Rattle.a429_recordings.specs.SimulationReplies.{BeginsNoLog, IsUnsimulated, files_of}
use Rattle.a429_recordings.proofs.simulate.prepare.Goals as goal

pub returns-in_err-writer-clause-prepared : goal.returns-in_err-writer-clause-prepared
returns-in_err-writer-clause-prepared g c =
    let i = files_of c.args.input.now in
    let e = c.in_err-writer.field-0.0 in
    let p = err_from_is_err_and c.from_residual.result c.from_residual.ensures.1 in
    failed c.from_residual.result _ (OrMemory (IsUnsimulated i c.args.form)) e (p.1 ∙ ap Err p.2)
    (or_memory_weaker (IsNoGivenPlan i.table) (IsUnsimulated i c.args.form) e (λ one. inl (inl one)) c.in_err-writer.ensures)

pub returns-in_err-player-clause-prepared : goal.returns-in_err-player-clause-prepared
returns-in_err-player-clause-prepared g c =
    let i = files_of c.args.input.now in
    let e = c.in_err-player.field-0.0 in
    let p = err_from_is_err_and c.from_residual-in_err-player.result c.from_residual-in_err-player.ensures.1 in
    let s = c.in_ok-writer.writer in
    let q = s.proposal in
    let names = c.in_ok-writer.ensures.1 in
    let proposed = c.in_ok-writer.ensures.0 in
    let why : BeginsNoLog s i c.args.form e → IsUnsimulated i c.args.form e = λ why. elim why [
      | inl one ↦ inl (inr (q, proposed, subst (λ (n : Naming). IsLogFault n i.view c.args.form.reading i.logs e) names one))
      | inr more ↦ inr (
        q,
        more.0,
        record { proposed = proposed; words_are = subst (λ (n : Naming). log_words n i.view c.args.form.reading i.logs ≡ Ok more.0) names more.1 },
        more.2,
        more.3,
      )
    ] in
    failed c.from_residual-in_err-player.result _ (OrMemory (IsUnsimulated i c.args.form)) e (p.1 ∙ ap Err p.2)
    (or_memory_weaker (BeginsNoLog s i c.args.form) (IsUnsimulated i c.args.form) e why c.in_err-player.ensures.player)

pub returns-clause-prepared : goal.returns-clause-prepared
returns-clause-prepared g c =
    let i = files_of c.args.input.now in
    let s = c.in_ok-writer.writer in
    let names = c.in_ok-writer.ensures.1 in
    let proposed = c.in_ok-writer.ensures.0 in
    let start = c.in_ok-player.ensures.player in
    record {
      words = start.0;
      simulated = record { proposed = proposed; words_are = subst (λ (n : Naming). log_words n i.view c.args.form.reading i.logs ≡ Ok start.0) names start.1 };
      style = c.in_ok-writer.ensures.2;
      begin = start.2.0;
      ready = record { names = names; playable = start.2.1 };
    }
