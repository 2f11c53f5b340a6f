use Rattle.std.proofs.Common.{refl, sym, ◌∙◌}
use Rattle.a429_station.proofs.station.plan_of_read.Goals as goal

pub returns-then-same_station-clause-plan : goal.returns-then-same_station-clause-plan
returns-then-same_station-clause-plan c = (
  record { record_of = c.args.equipment.now; plan = c.in_ok-plan.plan; reads = c.requires.read; sound = c.rows_are_sound.ensures; planned = c.in_ok-plan.ensures.planned; own = c.in_ok-plan.ensures.own },
  sym c.same_station.ensures ∙ c.if-same_station.true,
  refl,
)

pub returns-else-same_station-clause-fault : goal.returns-else-same_station-clause-fault
returns-else-same_station-clause-fault c = λ p. (
  record { record_of = c.args.equipment.now; plan = c.in_ok-plan.plan; reads = c.requires.read; sound = c.rows_are_sound.ensures; planned = c.in_ok-plan.ensures.planned; own = c.in_ok-plan.ensures.own },
  sym c.same_station.ensures ∙ c.if-same_station.false,
)
