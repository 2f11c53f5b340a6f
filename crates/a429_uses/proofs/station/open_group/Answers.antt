use Rattle.a429_uses.proofs.Opened.{begun}
use Rattle.a429_uses.proofs.station.open_group.Goals as goal

pub returns : goal.returns
returns c =
    begun c.args.transmitter c.args.planner.now c.in-Some.watcher c.in_ok-open.field-0 c.in-Some.ensures c.requires.number.0 c.requires.number.1 c.requires.group
    c.in_ok-open.ensures.stands c.in_ok-open.ensures.begins.1 c.in_ok-open.ensures.ends.0 c.in_ok-open.ensures.ends.1
