use Rattle.a429_workers.specs.Receives.{IsSameReceiver}
use Rattle.a429_uses.specs.Listening.{heard_at}
use Rattle.a429_uses.proofs.Listened.{AreHeard}
use Rattle.a429_uses.proofs.listening.listen.Given as goal

abbrev pub invariant-loop-place : goal.invariant-loop-place
invariant-loop-place g l = record {
  heard : AreHeard g.L.LineSource l.fn.line l.fn.receiver (heard_at l.line l.receiver l.heard) l.place;
  same : IsSameReceiver l.fn.receiver l.receiver;
}
