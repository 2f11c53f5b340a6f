use Rattle.a429_uses.proofs.Opened.{ready}
use Rattle.a429_uses.proofs.station.open_station.Goals as goal

pub returns : goal.returns
returns g c =
    ready c.args.equipment.now c.in_ok-receiver.receiver c.in_ok-receiver.transmitter c.in_ok-transmit.planner c.in_ok-plan.plan c.in_ok-transmit.transmit
    c.rows_are_sound.ensures c.in_ok-plan.ensures.planned c.in_ok-transmit.ensures.plans c.in_ok-receiver.ensures c.in_ok-transmit.ensures.begun
