use denote.Param.Send.{sendable}
use Rattle.a429_c.proofs.Moving.{handle_send}
use Rattle.a429_c.proofs.laws.stations_may_move.Goals as goal

pub returns : goal.returns
returns c = search (handle_send, sendable) depth 20 fits 5000
