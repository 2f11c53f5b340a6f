use Rattle.a429_console.proofs.ReadingParts.{read_weaker}
use Rattle.std.proofs.Common.{◌≡◌, ◌∙◌, ◌⊎◌, ◌++◌, ◌∷◌, [], List, ℕ, ap, map, refl, subst, sym, inl, inr}
use Rattle.std.specs.List.{AllByRecursion}
use Rattle.std.proofs.lemmas.Result.{IfOk-weaker}
use Rattle.a429_equipment.specs.TableRecord.{TableRecord}
use Rattle.a429_console.specs.RefusalText.{refusal_line}
use Rattle.a429_console.specs.Tables.{IsTakenBy}
use Rattle.a429_given.specs.GivenPlans.{IsNoGivenPlan}
use Rattle.a429_given.specs.GivenTables.{table_names}
use Rattle.a429_replay.specs.Kept.{events_of}
use Rattle.a429_replay.specs.Replaying.{IsInputUnread, IsReplayRefusal, IsScriptRefusal, ReplayInput}
use Rattle.a429_replay.specs.Opened.{input_of}
use Rattle.a429_replay.specs.Views.{asked_view}
use Rattle.a429_console.proofs.Refused.{both_ok, or_memory_weaker, told_or_memory}
use Rattle.a429_replay.proofs.replay.replay.Goals as goal

pub returns-in-Err-clause-replayed : goal.returns-in-Err-clause-replayed
returns-in-Err-clause-replayed g c = read_weaker c.in-Err.ensures (λ file bad.
    let names = map (λ n. n.now) c.args.more.now in
    let begun = IsReplayRefusal file (asked_view c.args.asked.now) (table_names c.args.table) c.args.script.now names in
    let why = or_memory_weaker (IsInputUnread file (table_names c.args.table) c.args.script.now names) begun c.in-Err.refusal
    (λ unread. inl unread) bad in
    both_ok c.refuse.result _ _ (λ status is line. (refusal_line line.0 ++ 10 ∷ [], inl (line.0, told_or_memory begun c.in-Err.refusal line.0 line.1 why, is, refl), line.2)) c.refuse.ensures.status c.refuse.ensures.line)

pub returns-in-Ok-prepare-clause-replayed : goal.returns-in-Ok-prepare-clause-replayed
returns-in-Ok-prepare-clause-replayed g c =
    let (q, prepared, tables) = c.in-Ok-prepare.ensures in
    rw c.plain_answer.ensures (read_weaker c.in-Ok.ensures (λ file read. IfOk-weaker c.play_prepared-status.result _ _ (λ status played.
    let was = played q prepared.start prepared.opened prepared.lines in
    (was.0, inr (input_of c.in-Ok.input, read, (q, c.in-Ok-prepare.prepared.view, events_of c.in-Ok-prepare.prepared.events.items, prepared.view, prepared.start, was.1)), was.2))
    c.play_prepared-status.ensures.played))

pub returns-in-Err-prepare-clause-replayed : goal.returns-in-Err-prepare-clause-replayed
returns-in-Err-prepare-clause-replayed g c = read_weaker c.in-Ok.ensures (λ file read.
    let names = map (λ n. n.now) c.args.more.now in
    let i = input_of c.in-Ok.input in
    let begun = IsReplayRefusal file (asked_view c.args.asked.now) (table_names c.args.table) c.args.script.now names in
    let why = or_memory_weaker (λ r. IsNoGivenPlan i.table r ⊎ IsScriptRefusal i (asked_view c.args.asked.now) r) begun c.in-Err-prepare.refusal
    (λ cause. inr (i, read, cause)) c.in-Err-prepare.ensures in
    both_ok c.refuse-in-Err-prepare.result _ _ (λ status is line. (refusal_line line.0 ++ 10 ∷ [], inl (line.0, told_or_memory begun c.in-Err-prepare.refusal line.0 line.1 why, is, refl), line.2)) c.refuse-in-Err-prepare.ensures.status c.refuse-in-Err-prepare.ensures.line)

pub returns-in-Err-clause-taken : goal.returns-in-Err-clause-taken
returns-in-Err-clause-taken g c = read_weaker c.in-Err.ensures (λ file bad takes. refl)

pub returns-in-Ok-prepare-clause-taken : goal.returns-in-Ok-prepare-clause-taken
returns-in-Ok-prepare-clause-taken g c =
    let (q, prepared, tables) = c.in-Ok-prepare.ensures in
    let i = input_of c.in-Ok.input in
    let station = c.play_prepared-status.new.prepared.station.equipment in
    let same_station : station ≡ q.station = c.play_prepared-status.ensures.station ∙ prepared.opened.2 in
    let same_tables = ap (λ (j : ReplayInput). j.further) c.play_prepared-status.ensures.input in
    read_weaker c.in-Ok.ensures (λ file read takes.
    let all : AllByRecursion (IsTakenBy station) i.further = subst (λ (t : TableRecord). AllByRecursion (IsTakenBy t) i.further) (sym same_station) (takes i read q prepared.start.proposed) in
    c.note_faults.ensures (subst (λ (ts : List (List ℕ)). AllByRecursion (IsTakenBy station) ts) (sym same_tables) all))

pub returns-in-Err-prepare-clause-taken : goal.returns-in-Err-prepare-clause-taken
returns-in-Err-prepare-clause-taken g c = read_weaker c.in-Ok.ensures (λ file read takes. refl)
