use Rattle.a429_uses.proofs.Given.{took_given}
use Rattle.a429_uses.proofs.station.run_station.Goals as goal

pub returns : goal.returns
returns g c = record {
  given = took_given c.args.equipment.now c.requires.receiver (λ i s there. (c.numbers_in_range.ensures.sources i s there).1) g.L.LineSource.given c.args.line.now c.run_threads-done.new.line
      (g.B.BusSink.taken c.args.bus.now) (g.B.BusSink.taken c.run_threads-done.new.bus) c.in_ok-ends.ends.receiver c.run_threads-done.new.ends.receiver
      c.in_ok-ends.ends.transmit c.run_threads-done.new.ends.transmit c.told.new.self c.meet.new.self c.in_ok-ends.ends.planner c.run_threads-done.new.ends.planner.list _
      c.in_ok-ends.ensures c.run_threads-done.ensures.listened c.run_threads-done.ensures.sent c.run_threads-done.ensures.group c.run_threads-done.ensures.plans
      c.told.ensures.list c.told.ensures.stands c.meet.ensures.loads c.meet.ensures.stands c.meet.ensures.agrees c.number-valid.ensures.valid;
}
