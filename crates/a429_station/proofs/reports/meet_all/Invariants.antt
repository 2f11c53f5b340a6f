use Rattle.std.specs.Prelude.{◌≡◌, take}
use Rattle.a429_station.specs.Working.{HasMet}
use Rattle.a429_station.proofs.reports.meet_all.Given as goal

abbrev pub invariant-loop-place : goal.invariant-loop-place
invariant-loop-place l = (l.receivers ≡ l.fn.receivers) × HasMet l.fn.transmit.transmitter.at.station (take l.place l.fn.receivers) l.fn.transmit l.transmit
