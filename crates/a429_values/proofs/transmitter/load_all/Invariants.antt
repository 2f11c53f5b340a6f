use Rattle.a429_values.specs.Seats.{IsSeatOf}
use Rattle.a429_values.proofs.Meeting.{Turn}
use Rattle.a429_values.proofs.transmitter.load_all.Given as goal

abbrev pub invariant-loop-source : goal.invariant-loop-source
invariant-loop-source l = record {
  seat : IsSeatOf l.wired.shared_words.shared.table_id l.seat;
  turn : Turn l.wired.equipment l.initial.seat.me.0 l.source l.seat.me.0;
}
