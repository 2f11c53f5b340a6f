use Rattle.a429_station.proofs.Plans.{led_first}
use Rattle.a429_station.proofs.station.Station.of_planner.Goals as goal

pub invariant_of-result : goal.invariant_of-result
invariant_of-result g c = led_first c.args.equipment.now c.args.planner c.rows_are_sound.ensures c.requires.planned c.requires.first
