use Rattle.std.proofs.Common.{◌≡◌, ◌∙◌, ap, inl, length, refl, subst, sym}
use Rattle.std.specs.Prelude.{IfErr, IfOk}
use Rattle.a429_equipment.specs.TableRecord.{TableRecord}
use Rattle.a429_workers.specs.Gates.{points_of}
use Rattle.a429_workers.specs.Runs.{IsWired}
use Rattle.a429_station.specs.Course.{HasRunBeside, asked, done_by}
use Rattle.a429_station.specs.Faults.{IsRunFault}
use Rattle.a429_station.proofs.running.run.Goals as goal

pub run_at-ended-requires-clause-desk : goal.run_at-ended-requires-clause-desk
run_at-ended-requires-clause-desk g c κs lives = c.in-Ok.ensures.desk

pub run_at-ended-requires-clause-hub : goal.run_at-ended-requires-clause-hub
run_at-ended-requires-clause-hub g c κs lives = (
  subst IsWired (sym c.in-Ok.ensures.station) (record { apart = c.sources_apart.ensures; received = λ i s there. (c.numbers_in_range.ensures.sources i s there).1 }),
  c.in-Ok.ensures.station ∙ sym c.requires.station,
)

pub run_at-ended-requires-clause-sources : goal.run_at-ended-requires-clause-sources
run_at-ended-requires-clause-sources g c κs lives = c.requires.sources ∙ sym (ap (λ (t : TableRecord). length t.receivers) c.in-Ok.ensures.station)

pub run_at-ended-requires-clause-sinks : goal.run_at-ended-requires-clause-sinks
run_at-ended-requires-clause-sinks g c κs lives = c.requires.sinks ∙ sym (ap (λ (t : TableRecord). length t.groups) c.in-Ok.ensures.station)

pub returns-in_default-clause-fault : goal.returns-in_default-clause-fault
returns-in_default-clause-fault g c = inl (refl, refl)

pub returns-clause-ran : goal.returns-clause-ran
returns-clause-ran g c =
    subst (λ (t : TableRecord). IfOk c.run_at-ended.result (HasRunBeside (done_by g.K.Control c.args.control.now c.run_at-ended.new.control) g.L.LineSource g.B.BusSink (asked t c.args.frames c.args.sources.items c.args.sinks.items)))
    c.in-Ok.ensures.station c.run_at-ended.ensures.ran

pub returns-clause-fault : goal.returns-clause-fault
returns-clause-fault g c =
    subst (λ (t : TableRecord). IfErr c.run_at-ended.result (IsRunFault (c.run_at-ended.new.control ≡ c.args.control.now) g.L.LineSource g.B.BusSink (points_of g.G.Gate c.args.gate.now) (asked t c.args.frames c.args.sources.items c.args.sinks.items)))
    c.in-Ok.ensures.station c.run_at-ended.ensures.fault
