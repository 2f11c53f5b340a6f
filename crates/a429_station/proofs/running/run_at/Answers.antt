use Rattle.std.proofs.Common.{arith, ◌≡◌, ◌∙◌, ℕ, List, ap, subst, sym, refl, [], map, length, inl, inr}
use Rattle.std.proofs.lemmas.List.{length-map}
use Rattle.std.proofs.lemmas.Result.{IfOk-weaker}
use Rattle.std.specs.List.{AllByRecursion}
use Rattle.std.specs.Prelude.{IfOk}
use Rattle.a429_equipment.specs.TableRecord.{TableRecord}
use Rattle.a429_equipment.specs.Sound.{HaveOwnSources}
use Rattle.a429_workers.specs.Gates.{listening, points_of}
use Rattle.a429_workers.specs.Receives.{Gives, after_words}
use Rattle.a429_station.specs.Course.{HasRunBeside, IsHeardIn, IsSentIn, asked, done_by, fresh}
use Rattle.a429_station.specs.Faults.{IsRunFault}
use Rattle.a429_station.specs.Numbered.{AllOfThree}
use Rattle.a429_station.specs.Workers.{ReportsAllEnds}
use Rattle.a429_station.specs.Working.{IsJoined, IsOver, IsReady, IsReceiverAt, emitting}
use Rattle.a429_station.specs.declared.reports.Report.{Report}
use Rattle.a429_station.specs.declared.working.Emitted.{Emitted}
use Rattle.a429_station.specs.declared.working.Received.{Received}
use Rattle.a429_station.specs.declared.working.ReceiverWorker.{ReceiverWorker}
use Rattle.a429_station.specs.declared.working.GroupWorker.{GroupWorker}
use Rattle.a429_station.proofs.Ended.{AreAfter, HasHeard, HasPut, all_stopped, course_of, taken_in, group_one, group_over, heard_one, receiver_one, receiver_stays, done_between}
use Rattle.a429_station.proofs.OneRun.{TakenIn}
use Rattle.a429_station.proofs.Numbered.{at_most, middle, numbered_all, shown, shown_past, three_of, zip_length, zip_numbered, zip_with}
use Rattle.a429_station.proofs.Plans.{plan_small}
use Rattle.a429_station.proofs.Stopping.{weaker}
use Rattle.a429_values.specs.Ends as ends
use Rattle.a429_station.proofs.running.run_at.Goals as goal

pub receivers-requires : goal.receivers-requires
receivers-requires g c = record {
  hub = ap (λ (d : ends.Dealing). d.at) c.requires.desk;
  none = ap (λ (d : ends.Dealing). d.receivers) c.requires.desk;
  sources = at_most _ _ _ c.requires.sources refl;
}

pub groups-requires : goal.groups-requires
groups-requires g c = record {
  hub = c.in-Ok.ensures.desk.0 ∙ ap (λ (d : ends.Dealing). d.at) c.requires.desk;
  none = c.in-Ok.ensures.desk.1 ∙ ap (λ (d : ends.Dealing). d.transmitters) c.requires.desk;
  sinks = at_most _ _ _ c.requires.sinks refl;
  planned = omega (arith, c.requires.sinks, c.requires.begun.planned.count, ap (λ (t : TableRecord). length t.groups) c.requires.hub.1);
  small = plan_small c.args.station.now.station c.args.station.now.planner.last c.requires.begun.planned;
  watchers = c.requires.watchers;
  enough = c.requires.enough;
}

pub report_all-requires-clause-receivers : goal.report_all-requires-clause-receivers
report_all-requires-clause-receivers g c =
    let hub = c.args.hub.now in
    zip_numbered _ (λ k w. w.receiver ≡ fresh hub k) (λ k d. IsReceiverAt hub k d.receiver) (λ k w d h p. receiver_stays hub k h.words d.answer w.receiver d.receiver h.taken p)
    c.in-Ok.receiving.items c.in-Ok-run_at_once.done.first.items c.in-Ok-run_at_once.ensures.first c.in-Ok.ensures.workers.fresh

pub report_all-requires-clause-groups : goal.report_all-requires-clause-groups
report_all-requires-clause-groups g c =
    let hub = c.args.hub.now in
    let old = c.args.station.now in
    let on = c.in-Ok-run_at_once.ensures.meanwhile.0 in
    let over = zip_numbered _ (λ k w. IsReady hub old.planner k w.transmit × (w.frames ≡ c.args.frames)) (λ k d. IsOver hub c.run_at_once.new.to.planner d.transmit d.answer)
    (λ k w d h p. group_over g.B.BusSink (points_of g.G.Gate w.gate.now) w.number hub old c.run_at_once.new.to k w.frames (emitting w.transmit w.sink) (emitting d.transmit d.sink) d.answer c.requires.hub.1 c.requires.begun on c.plans_are_of_station.ensures (omega (arith, p.1, c.requires.few)) h p.0)
    c.in-Ok-groups.sending.items c.in-Ok-run_at_once.done.second.items c.in-Ok-run_at_once.ensures.second c.in-Ok-groups.ensures.workers.ready in
    numbered_all (λ d. IsOver hub c.run_at_once.new.to.planner d.transmit d.answer) c.in-Ok-run_at_once.done.second.items over

pub returns-clause-ran : goal.returns-clause-ran
returns-clause-ran g c =
    let gives = Gives g.L.LineSource.given g.L.LineSource.left in
    let ended = g.L.LineSource.ended in
    let taken = g.B.BusSink.taken in
    let hub = c.args.hub.now in
    let old = c.args.station.now in
    let new = c.run_at_once.new.to in
    let did : ReceiverWorker g.row.L.Denot g.row.G.Denot → Received g.row.L.Denot → Type 0 = HasHeard g.L.LineSource g.B.BusSink g.G.Gate in
    let first = c.in-Ok-run_at_once.ensures.first in
    let ws = c.in-Ok.receiving.items in
    let ds = c.in-Ok-run_at_once.done.first.items in
    let show : (w : ReceiverWorker g.row.L.Denot g.row.G.Denot) (d : Received g.row.L.Denot) → did w d → List ℕ = λ w d h. h.words in
    let came : ℕ → List ℕ = shown did show ws ds first in
    let course = course_of old c.plans_are_of_station.ensures.later came in
    let rs = map (λ d. d.receiver) ds in
    let sent : GroupWorker g.row.B.Denot g.row.G.Denot g.B.BusSink g.G.Gate → Emitted g.row.B.Denot → Type 0 = HasPut g.L.LineSource g.B.BusSink g.G.Gate in
    let both : GroupWorker g.row.B.Denot g.row.G.Denot g.B.BusSink g.G.Gate → Emitted g.row.B.Denot → Type 0 = λ w d. sent w d × IsJoined hub.station new.planner.list rs d.transmit in
    let none : (w : GroupWorker g.row.B.Denot g.row.G.Denot g.B.BusSink g.G.Gate) (d : Emitted g.row.B.Denot) → both w d → List ℕ = λ w d h. [] in
    let vs = c.in-Ok-groups.sending.items in
    let es = c.in-Ok-run_at_once.done.second.items in
    let all : length ws ≡ length hub.station.receivers = omega (arith, ap length c.in-Ok.ensures.workers.lines, length-map ws (λ w. w.line), c.requires.sources) in
    let many : length ds ≡ length hub.station.receivers = omega (arith, zip_length did ws ds first, all) in
    let x : TakenIn = record { at = hub; first = old.planner; last = new.planner; course = course; receivers = rs } in
    let by : (report : Report g.row.L.Denot g.row.B.Denot) → ReportsAllEnds hub.station new.planner.list c.in-Ok-run_at_once.done report
    → HasRunBeside (done_by g.K.Control c.args.control.now c.run_at_once.new.meanwhile) g.L.LineSource g.B.BusSink (asked hub.station c.args.frames (map (λ w. w.line) ws) (map (λ w. w.sink) c.in-Ok-groups.sending.items)) report = λ report H.
    let lines = three_of did show (λ w. w.line) (λ d. d.line) (λ d. d.answer) (λ k w. w.receiver ≡ fresh hub k) (IsHeardIn gives ended hub.station course) came
    (λ k w d t h p same is. heard_one g.L.LineSource (points_of g.G.Gate w.gate.now) w.number hub course k (listening w.line w.receiver) (listening d.line d.receiver) d.answer t h p same is)
    ws ds report.receivers.items first c.in-Ok.ensures.workers.fresh H.receivers (λ k. refl) in
    let after = three_of did show (λ w. w.line) (λ d. d.receiver) (λ d. d.answer) (λ k w. w.receiver ≡ fresh hub k) (λ k x r t. r ≡ after_words (fresh hub k) (came k)) came
    (λ k w d t h p same is. receiver_one g.L.LineSource (points_of g.G.Gate w.gate.now) w.number hub k (came k) (listening w.line w.receiver) (listening d.line d.receiver) d.answer t h p same is)
    ws ds report.receivers.items first c.in-Ok.ensures.workers.fresh H.receivers (λ k. refl) in
    let each : AreAfter hub came rs = middle (λ k r. r ≡ after_words (fresh hub k) (came k)) (map (λ w. w.line) ws) rs report.receivers.items after in
    let K = taken_in hub old new came rs c.requires.hub.1 c.requires.begun c.in-Ok-run_at_once.ensures.meanwhile.0 c.plans_are_of_station.ensures c.requires.hub.0 each (omega (arith, many, length-map ds (λ d. d.receiver)))
    (λ k past. shown_past did show ws ds first k (omega (arith, past, all))) in
    let pairs = zip_with sent (λ d. IsJoined hub.station new.planner.list rs d.transmit) vs es c.in-Ok-run_at_once.ensures.second H.joined in
    let cells = three_of both none (λ w. w.sink) (λ d. d.sink) (λ d. d.answer)
    (λ k w. IsReady hub old.planner k w.transmit × (w.frames ≡ c.args.frames)) (IsSentIn taken c.args.frames hub.station course) (shown both none vs es pairs)
    (λ k w d t h p same is. group_one g.B.BusSink (points_of g.G.Gate w.gate.now) w.number x c.args.frames w.frames k (emitting w.transmit w.sink) (emitting d.transmit d.sink) d.answer t K h.0 h.1 p.0 p.1 same)
    vs es report.groups.items pairs c.in-Ok-groups.ensures.workers.ready H.groups (λ k. refl) in (
      record {
        course = course;
        planned = K.planned;
        own_sources = subst (λ (t : TableRecord). AllByRecursion HaveOwnSources t.outputs) (c.in-Ok-run_at_once.ensures.meanwhile.0.station ∙ sym c.requires.hub.1) c.plans_are_of_station.ensures.own_sources;
        own_plans = c.plans_are_of_station.ensures.own;
        few = c.requires.few;
        heard = subst (λ l. AllOfThree (IsHeardIn gives ended hub.station course) (map (λ w. w.line) ws) l report.receivers.items) (sym H.sources) lines;
        sent = subst (λ l. AllOfThree (IsSentIn taken c.args.frames hub.station course) (map (λ w. w.sink) vs) l report.groups.items) (sym H.sinks) cells;
      },
      done_between (done_by g.K.Control c.args.control.now c.run_at_once.new.meanwhile) hub.station old new c.requires.hub.1 c.requires.begun c.in-Ok-run_at_once.ensures.meanwhile.0 c.plans_are_of_station.ensures (c.in-Ok-run_at_once.ensures.meanwhile.1 H.control),
    ) in
    let ran : List g.row.L.Denot → List g.row.B.Denot → Type 0 = λ l m.
    IfOk c.report_all.result (HasRunBeside (done_by g.K.Control c.args.control.now c.run_at_once.new.meanwhile) g.L.LineSource g.B.BusSink (asked hub.station c.args.frames l m)) in
    subst (λ (l : List g.row.L.Denot). ran l c.args.sinks.items) c.in-Ok.ensures.workers.lines
    (subst (λ (m : List g.row.B.Denot). ran (map (λ w. w.line) ws) m) c.in-Ok-groups.ensures.workers.sinks (IfOk-weaker c.report_all.result _ _ by c.report_all.ensures.reported))

-- the first fault of a worker; otherwise that of the control
pub returns-clause-fault : goal.returns-clause-fault
returns-clause-fault g c =
    let ask = asked c.args.hub.now.station c.args.frames c.args.sources.items c.args.sinks.items in
    weaker _ (IsRunFault (c.run_at_once.new.meanwhile ≡ c.args.control.now) g.L.LineSource g.B.BusSink (points_of g.G.Gate c.args.gate.now) ask) c.report_all.result
    (λ fault first. inr (inr (all_stopped g.L.LineSource g.B.BusSink g.G.Gate c.args.gate.now ask c.in-Ok.receiving.items c.in-Ok-run_at_once.done.first.items c.in-Ok-groups.sending.items c.in-Ok-run_at_once.done.second.items fault
    c.in-Ok-run_at_once.ensures.first c.in-Ok.ensures.workers.gates c.in-Ok.ensures.workers.lines c.in-Ok-run_at_once.ensures.second c.in-Ok-groups.ensures.workers.gates c.in-Ok-groups.ensures.workers.sinks first)))
    c.report_all.ensures.fault

pub returns-in_default-clause-fault : goal.returns-in_default-clause-fault
returns-in_default-clause-fault g c = inl (refl, refl)

pub returns-in_default-groups-clause-fault : goal.returns-in_default-groups-clause-fault
returns-in_default-groups-clause-fault g c = inl (refl, refl)

pub returns-in_default-run_at_once-clause-fault : goal.returns-in_default-run_at_once-clause-fault
returns-in_default-run_at_once-clause-fault g c = inr (inl refl)
