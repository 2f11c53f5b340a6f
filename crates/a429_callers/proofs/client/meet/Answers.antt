use Rattle.a429_callers.proofs.OneRuns.{met_both}
use Rattle.a429_callers.proofs.client.meet.Goals as goal

pub returns : goal.returns
returns c =
    met_both c.args.transmit.now c.told.new.self c.meet.new.self c.meet-2.new.self c.args.first.now c.args.second.now c.args.planner.now.list _ _ c.requires.apart
    c.told.ensures.list c.meet.ensures.loads c.meet-2.ensures.loads c.told.ensures.stands c.meet.ensures.stands c.meet-2.ensures.stands
    c.meet.ensures.agrees c.meet-2.ensures.agrees c.meet-2.ensures.others c.number-one.ensures.received c.number-other.ensures.received
