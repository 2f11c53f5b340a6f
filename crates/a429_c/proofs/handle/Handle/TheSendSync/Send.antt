use denote.Param.Send.{IsSend}
use Rattle.a429_c.proofs.Moving.{handle_send}
use Rattle.a429_c.specs.contracts.handle.Handle.{the_row}

pub send : IsSend the_row
send = handle_send
