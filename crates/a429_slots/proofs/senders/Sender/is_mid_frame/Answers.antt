use Rattle.std.proofs.Common.{◌≡◌, ◌∙◌, ap, ltb, true, arith}
use Rattle.std.proofs.lemmas.Bool.{lt-ltb}
use Rattle.a429_slots.specs.Tables.{buses_of, cells_of}
use Rattle.a429_slots.proofs.NextCells.{mid_frame}
use Rattle.a429_slots.proofs.senders.Sender.is_mid_frame.Goals as goal

pub returns-then-self-buses : goal.returns-then-self-buses
returns-then-self-buses c =
    let sender = c.self.inside in
    let below : ltb sender.bus (buses_of sender.plan) ≡ true = lt-ltb sender.bus (buses_of sender.plan) (omega (arith, c.buses.ensures.value, c.if-self-buses.true)) in
    rw c.frame.ensures.value
    ((rw below at (mid_frame sender.plan sender.bus sender.slot c.self.invariant.1)) ∙ ap (λ s. ltb s.sent (cells_of s.table)) c.self.view_is)
