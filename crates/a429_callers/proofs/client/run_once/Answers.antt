use Rattle.std.proofs.Common.{rules, arith, ap, length, subst, sym}
use Rattle.a429_slots.specs.Planned.{IsPlanOf}
use Rattle.a429_slots.specs.Tables.{PlanTable, groups_of}
use Rattle.a429_board.specs.Lists.{beginner}
use Rattle.a429_callers.specs.OneRun.{CanPublish}
use Rattle.a429_callers.proofs.OneRuns.{run_over}
use Rattle.a429_callers.proofs.client.run_once.Goals as goal

pub open_transmit-requires-clause-group : goal.open_transmit-requires-clause-group
open_transmit-requires-clause-group g c =
    let planned : IsPlanOf c.args.station.now c.in_ok-opens.opens = c.in_ok-opens.ensures in
    omega (arith, c.requires.group, planned.count, ap (λ (p : PlanTable). length (groups_of p)) c.in-Ok-open.ensures.planner.1)

pub take_and_send-done-requires-clause-publish : goal.take_and_send-done-requires-clause-publish
take_and_send-done-requires-clause-publish g c κs within =
    let publish : CanPublish c.args.station.now c.args.next.now c.in-Ok-open.planner c.in_ok-later.later = record {
      first = search rules;
      planned = subst (IsPlanOf c.args.station.now) (sym c.in-Ok-open.ensures.planner.1) c.in_ok-opens.ensures;
      next_planned = c.in_ok-later.ensures;
      same = c.requires.same;
    } in
    publish

pub returns-then-done : goal.returns-then-done
returns-then-done g c =
    let station = c.args.station.now in
    let done = c.take_and_send-done.result in
    run_over g.L.LineSource.given g.B.BusSink.taken c.ends_run_once.ensures station c.in-Ok.hub (beginner c.in-Ok-open.planner) _ c.in_ok-one.field-0.transmitter c.in-Some.transmit _ _
    c.in_ok-one.field-0.one _ c.in_ok-one.field-0.other _ done done done _ _ _ _ _ _
    c.in-Ok.ensures.station (record { apart = c.sources_apart.ensures; received = λ i s there. (c.numbers_in_range.ensures.sources i s there).1 }) c.requires.two c.requires.group
    (subst (IsPlanOf station) (sym c.in-Ok-open.ensures.planner.1) c.in_ok-opens.ensures)
    (search rules) c.in-Some.ensures.begins c.in-Some.ensures.ends.0 (search rules) (search rules) (search rules) (search rules) (search rules) (search rules)
    c.meet.ensures c.if-done.true c.if-done.true c.if-done.true
