use Rattle.std.proofs.Common.{◌≡◌, ◌∙◌, ℕ, List, length, rules, subst, sym}
use Rattle.std.specs.Prelude.{⊤, None, Option, Some}
use Rattle.std.specs.declared.vec.Vec.{Vec}
use Rattle.std.specs.declared.alloc.Global.{Global}
use Rattle.a429_filter.specs.Sources.{Memory, SourceAnswer, all_given}
use Rattle.a429_workers.specs.declared.cells.Sent.{Sent}
use Rattle.a429_workers.specs.declared.gates.Point.{Point}
use Rattle.a429_station.specs.Course.{IsHeardIn, asked}
use Rattle.a429_station.specs.Faults.{IsLiveFault}
use Rattle.a429_station.specs.Numbered.{AllOfThree}
use Rattle.a429_console.specs.Files.{bytes_of}
use Rattle.a429_live.specs.LiveReplies.{AreSentWhole, HasLiveRun, IsReport, IsRunRefusal, IsRunReport}
use Rattle.a429_live.specs.declared.control.SubmitAnswer.{SubmitAnswer}
use Rattle.a429_live.specs.Resubmitted.{AreAnswers}
use Rattle.a429_console.specs.RefusalText.{OrMemory}
use Rattle.a429_console.specs.declared.refusals.CommandRefusal.{CommandRefusal}
use Rattle.a429_live.proofs.LiveRefusals.{lines_of, memory_lines, never_shut, refusal_told, sure_sinks}
use Rattle.a429_live.proofs.NoneRefused.{none_refused}
use Rattle.std.specs.List.{AllByRecursion}
use Rattle.a429_equipment.specs.TableRecord.{TableRecord}
use Rattle.a429_console.specs.Tables.{IsTakenBy}
use Rattle.a429_live.proofs.LiveRuns.{GivesFrom, as_many, heard_rows}
use Rattle.a429_live.proofs.WholeFrames.{all_sent_whole}
use Rattle.a429_console.specs.WholeReplies.{IsDone}
use Rattle.a429_console.proofs.PutReplies.{replies_weaker}
use Rattle.a429_live.proofs.running.run.Goals as goal

pub returns-in-Ok-clause-report : goal.returns-in-Ok-clause-report
returns-in-Ok-clause-report g c =
    let t = c.args.equipment.now in
    let report = c.in-Ok.report in
    let told = c.in-Ok.ensures.told in
    let ran = told.0 in
    let between = told.1 in
    let many : length c.in_ok-sources.sources.items ≡ length t.receivers = search rules in
    let few : length c.in_ok-sinks.sinks.items ≡ length t.groups = search rules in
    let words = c.args.arrivals.now in
    let further = bytes_of c.args.further.now in
    let answers = c.deref.result.now in
    let answered : AreAnswers between.begin further answers between.end =
    subst (λ (xs : List SubmitAnswer). AreAnswers between.begin further xs between.end) (sym (c.deref.ensures.value ∙ c.hand_warnings.ensures.answers))
    (subst (λ (tables : List (Vec ℕ Global)). AreAnswers between.begin (bytes_of tables) c.live_planned.new.control.answers.items between.end) c.new-control.ensures.tables (between.done c.new-control.ensures.none)) in
    let heard = heard_rows t ran.course words (length t.receivers) report.sources.items report.receivers.items
    (subst (λ l. AllOfThree (IsHeardIn GivesFrom all_given t ran.course) l report.sources.items report.receivers.items) (search rules) ran.heard) in
    let receivers = as_many _ c.in_ok-sources.sources.items report.sources.items report.receivers.items ran.heard ∙ many in
    let groups = as_many _ c.in_ok-sinks.sinks.items report.sinks.items report.groups.items ran.sent ∙ few in
    let cells : AreSentWhole t c.args.frames further report.groups.items =
    all_sent_whole _ c.args.frames t ran.course further answers c.in_ok-sinks.sinks.items report.sinks.items report.groups.items _ between ran.planned answered ran.sent in
    let run : HasLiveRun t words c.args.frames further report.receivers.items report.groups.items = record { few = ran.few; heard = heard; receivers = receivers; groups = groups; cells = cells } in
    replies_weaker (IsDone (IsReport t further report.receivers.items report.groups.items)) (IsDone (IsRunReport t words c.args.frames further)) (λ why. ⊥) (IsRunRefusal t words c.args.frames)
    c.report_reply.result (λ status bytes is. ((report.receivers.items, report.groups.items, run, is.0), is.1)) (λ e none. absurd none)
    (c.report_reply.ensures between.begin between.end between.station between.begun.planned.number answered)

pub returns-in-Ok-clause-taken : goal.returns-in-Ok-clause-taken
returns-in-Ok-clause-taken g c = λ all.
    let between = c.in-Ok.ensures.told.1 in
    let further = bytes_of c.args.further.now in
    let answered : AreAnswers between.begin further c.live_planned.new.control.answers.items between.end =
    subst (λ (tables : List (Vec ℕ Global)). AreAnswers between.begin (bytes_of tables) c.live_planned.new.control.answers.items between.end) c.new-control.ensures.tables (between.done c.new-control.ensures.none) in
    let taken = subst (λ (t : TableRecord). AllByRecursion (IsTakenBy t) further) (sym between.station) all in
    c.hand_warnings.ensures.taken (none_refused c.plans_are_unique.ensures.either between.begin between.end further c.live_planned.new.control.answers.items answered taken)

pub returns-clause-report : goal.returns-clause-report
returns-clause-report g c =
    let t = c.args.equipment.now in
    let words = c.args.arrivals.now in
    let sinks = c.in_ok-sinks.sinks.items in
    let fault = c.in-Err.fault in
    let idle = c.live_planned.new.control ≡ c.new-control.result in
    let lines : c.in_ok-sources.sources.items ≡ lines_of words (length t.receivers) = search rules in
    let steps : Memory → SourceAnswer → Memory → Type 0 = λ before answer after. Unit {0} in
    let taken : ℕ → Option (List Sent) = λ sink. None in
    let counted : ℕ → Option ℕ = λ sink. Some sink in
    let passes : Point → Type 0 = λ point. ⊤ in
    let own = subst (λ (l : List Memory). IsLiveFault idle (memory_lines steps) (sure_sinks taken counted) (never_shut passes) (asked t c.args.frames l sinks) fault) lines c.in-Err.ensures.fault in
    subst (λ (e : CommandRefusal). OrMemory (IsRunRefusal t words c.args.frames) e) (sym c.run_refusal.ensures) (refusal_told idle steps taken counted passes t words c.args.frames sinks fault own)
