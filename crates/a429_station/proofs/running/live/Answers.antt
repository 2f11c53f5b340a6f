use Rattle.a429_station.proofs.running.live.Goals as goal

pub returns-in-Err-clause-fault : goal.returns-in-Err-clause-fault
returns-in-Err-clause-fault g c = c.in-Err.ensures.fault

pub returns-in-Err-clause-ran : goal.returns-in-Err-clause-ran
returns-in-Err-clause-ran g c = tt

pub returns-in-Err-clause-told : goal.returns-in-Err-clause-told
returns-in-Err-clause-told g c = tt

pub live_planned-requires-clause-sources : goal.live_planned-requires-clause-sources
live_planned-requires-clause-sources g c κs lives = c.requires.sources

pub live_planned-requires-clause-planned : goal.live_planned-requires-clause-planned
live_planned-requires-clause-planned g c κs lives = c.in-Ok.ensures.planned

pub live_planned-requires-clause-sinks : goal.live_planned-requires-clause-sinks
live_planned-requires-clause-sinks g c κs lives = c.requires.sinks

pub returns-clause-ran : goal.returns-clause-ran
returns-clause-ran g c = c.live_planned.ensures.ran

pub returns-clause-told : goal.returns-clause-told
returns-clause-told g c = c.live_planned.ensures.told

pub returns-clause-fault : goal.returns-clause-fault
returns-clause-fault g c = c.live_planned.ensures.fault
