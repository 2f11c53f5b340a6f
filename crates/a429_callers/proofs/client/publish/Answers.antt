use Rattle.a429_callers.proofs.OneRuns.{shown_after}
use Rattle.a429_callers.proofs.client.publish.Goals as goal

pub returns-clause-shown : goal.returns-clause-shown
returns-clause-shown g c =
    shown_after c.args.station.now c.args.next.now c.args.planner.now c.publish.new.self c.args.plan c.publish.result c.rows_are_sound.ensures c.rows_are_sound-2.ensures
    c.requires.planned c.requires.next_planned c.requires.same ((c.one_station_is_equality.ensures c.args.station.now c.args.next.now).0 c.requires.same) c.requires.first
    c.publish.ensures.next c.publish.ensures.list c.publish.ensures.unchanged
