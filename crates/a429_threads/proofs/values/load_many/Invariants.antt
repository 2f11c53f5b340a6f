use Rattle.std.proofs.Common.{◌≡◌}
use Rattle.a429_threads.proofs.values.load_many.Given as goal

abbrev pub invariant-loop : goal.invariant-loop
invariant-loop l = l.transmitter.at ≡ l.initial.transmitter.at
