use Rattle.std.proofs.Common.{◌∙◌, ap, inr, subst, List, ℕ}
use Rattle.std.specs.Prelude.{Err}
use Rattle.std.proofs.lemmas.Result.{err_from_is_err_and}
use Rattle.a429_live.specs.LiveReplies.{IsNoLiveStart, files_of}
use Rattle.a429_console.specs.RefusalText.{OrMemory}
use Rattle.a429_console.specs.Names.{Naming, naming_of}
use Rattle.a429_live.specs.WordsFile.{IsWordsFault}
use Rattle.a429_console.proofs.Refused.{failed, or_memory_weaker}
use Rattle.a429_live.proofs.running.prepare.Goals as goal

pub returns-in_err-arrivals : goal.returns-in_err-arrivals
returns-in_err-arrivals c =
    let i = files_of c.args.input.now in
    let e = c.in_err-arrivals.field-0.0 in
    let p = err_from_is_err_and c.from_residual-in_err-arrivals.result c.from_residual-in_err-arrivals.ensures.1 in
    let q = c.in_ok-proposal.proposal in
    let of_names = subst (λ (n : Naming). OrMemory (IsWordsFault n c.deref.result.now) e) (ap naming_of c.equipment.ensures.equipment) c.in_err-arrivals.ensures in
    let fault = subst (λ (t : List ℕ). OrMemory (IsWordsFault (naming_of q.station) t) e) c.deref.ensures.value of_names in
    failed c.from_residual-in_err-arrivals.result _ (OrMemory (IsNoLiveStart i)) e (p.1 ∙ ap Err p.2)
    (or_memory_weaker (IsWordsFault (naming_of q.station) i.words) (IsNoLiveStart i) e (λ one. inr (q, c.in_ok-proposal.ensures.given, one)) fault)
