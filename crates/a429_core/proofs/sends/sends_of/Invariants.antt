use Rattle.std.proofs.Common.{◌≡◌, replicate}
use Rattle.a429_slots.specs.Recalling.{never}
use Rattle.a429_core.proofs.sends.sends_of.Given as goal

abbrev pub invariant-loop : goal.invariant-loop
invariant-loop l = l.sends.items ≡ replicate l.counter (replicate l.sources never)
