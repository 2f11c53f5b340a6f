use Rattle.std.proofs.Common.{◌∙◌, ◌∷◌, ap, inl, inr, refl, subst, sym, List, ℕ}
use Rattle.std.specs.List.{AllByRecursion}
use Rattle.a429_console.specs.Tables.{IsTakenBy}
use Rattle.std.specs.Prelude.{Err}
use Rattle.std.proofs.lemmas.Result.{err_from_is_err_and}
use Rattle.a429_equipment.specs.TableRecord.{TableRecord}
use Rattle.std.specs.declared.vec.Vec.{Vec}
use Rattle.std.specs.declared.alloc.Global.{Global}
use Rattle.a429_console.specs.Files.{bytes_of}
use Rattle.a429_live.specs.LiveReplies.{IsLiveRefusal, IsLiveUnread, IsNoLiveStart, IsReportOf, IsRunRefusal, IsRunReport, IsRunResult, files_of}
use Rattle.a429_live.specs.declared.words.Arrival.{Arrival}
use Rattle.a429_arguments.specs.Requests.{asked_of}
use Rattle.a429_console.specs.RefusalText.{OrMemory}
use Rattle.a429_console.proofs.ReadingParts.{read_weaker}
use Rattle.a429_console.specs.WholeReplies.{IsDone}
use Rattle.a429_console.proofs.PutReplies.{replies_weaker}
use Rattle.a429_console.proofs.Refused.{failed, or_memory_weaker}
use Rattle.a429_live.proofs.running.run_station.Goals as goal

pub returns-in_err-input-clause-taken : goal.returns-in_err-input-clause-taken
returns-in_err-input-clause-taken g c = read_weaker c.in_err-input.ensures (λ file bad takes. refl)

pub returns-in_err-prepared-clause-taken : goal.returns-in_err-prepared-clause-taken
returns-in_err-prepared-clause-taken g c = read_weaker c.in_ok-input.ensures (λ file read takes. refl)

pub returns-in_err-input-clause-report : goal.returns-in_err-input-clause-report
returns-in_err-input-clause-report g c =
    let r = asked_of c.args.asked.now in
    let e = c.in_err-input.field-0.0 in
    let p = err_from_is_err_and c.from_residual.result c.from_residual.ensures.1 in
    read_weaker c.in_err-input.ensures (λ file bad. failed c.from_residual.result _ (OrMemory (IsLiveRefusal file r)) e (p.1 ∙ ap Err p.2)
    (or_memory_weaker (IsLiveUnread file r) (IsLiveRefusal file r) e (λ one. inl one) bad))

pub returns-in_err-prepared-clause-report : goal.returns-in_err-prepared-clause-report
returns-in_err-prepared-clause-report g c =
    let r = asked_of c.args.asked.now in
    let i = files_of c.in_ok-input.input in
    let e = c.in_err-prepared.field-0.0 in
    let p = err_from_is_err_and c.from_residual-in_err-prepared.result c.from_residual-in_err-prepared.ensures.1 in
    read_weaker c.in_ok-input.ensures (λ file read. failed c.from_residual-in_err-prepared.result _ (OrMemory (IsLiveRefusal file r)) e (p.1 ∙ ap Err p.2)
    (or_memory_weaker (IsNoLiveStart i) (IsLiveRefusal file r) e (λ one. inr (i, read, inl one)) c.in_err-prepared.ensures))

pub returns-clause-taken : goal.returns-clause-taken
returns-clause-taken g c =
    let i = files_of c.in_ok-input.input in
    let q = c.in_ok-prepared.prepared.proposal in
    read_weaker c.in_ok-input.ensures (λ file read takes.
    let all : AllByRecursion (IsTakenBy q.station) (bytes_of c.deref-2.result.now) =
    subst (λ (tables : List (Vec ℕ Global)). AllByRecursion (IsTakenBy q.station) (bytes_of tables)) (sym c.deref-2.ensures.value) (takes i read q c.in_ok-prepared.ensures.proposed) in
    c.run-result.ensures.taken (subst (λ (t : TableRecord). AllByRecursion (IsTakenBy t) (bytes_of c.deref-2.result.now)) (sym c.equipment-equipment.ensures.equipment) all))

pub returns-clause-report : goal.returns-clause-report
returns-clause-report g c =
    let r = asked_of c.args.asked.now in
    let i = files_of c.in_ok-input.input in
    let q = c.in_ok-prepared.prepared.proposal in
    let start = c.in_ok-prepared.ensures in
    let came = c.in_ok-prepared.prepared.arrivals.items in
    let of_station : IsRunResult q.station c.deref.result.now r.number (bytes_of c.deref-2.result.now) c.run-result.result =
    subst (λ (t : TableRecord). IsRunResult t c.deref.result.now r.number (bytes_of c.deref-2.result.now) c.run-result.result) c.equipment-equipment.ensures.equipment c.run-result.ensures.report in
    let of_words : IsRunResult q.station came r.number (bytes_of c.deref-2.result.now) c.run-result.result =
    subst (λ (a : List Arrival). IsRunResult q.station a r.number (bytes_of c.deref-2.result.now) c.run-result.result) c.deref.ensures.value of_station in
    let of_files : IsRunResult q.station came r.number i.further c.run-result.result =
    subst (λ (tables : List (Vec ℕ Global)). IsRunResult q.station came r.number (bytes_of tables) c.run-result.result) c.deref-2.ensures.value of_words in
    read_weaker c.in_ok-input.ensures (λ file read.
    replies_weaker (IsDone (IsRunReport q.station came r.number i.further)) (IsDone (IsReportOf file r)) (IsRunRefusal q.station came r.number) (IsLiveRefusal file r) c.run-result.result
    (λ status bytes done. ((i, q, came, read, start, done.0), done.1)) (λ e one. inr (i, read, inr (q, came, start, one))) of_files)
