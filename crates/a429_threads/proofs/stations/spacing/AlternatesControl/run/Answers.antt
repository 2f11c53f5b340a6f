use Rattle.a429_threads.proofs.stations.spacing.AlternatesControl.run.Goals as goal
use Rattle.a429_station.proofs.Plans.{goes_further}

pub returns-clause-station : goal.returns-clause-station
returns-clause-station g c = goes_further _ _ _ c.publish_both-early.ensures.after c.publish_both-late.ensures.after
