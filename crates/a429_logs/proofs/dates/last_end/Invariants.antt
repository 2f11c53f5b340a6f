use Rattle.std.proofs.Common.{◌≡◌, ◌<◌}
use Rattle.std.specs.Prelude.{IfSome, length}
use Rattle.a429_logs.specs.LateDates.{last_end}
use Rattle.a429_logs.proofs.dates.last_end.Given as goal

abbrev pub invariant-loop-place : goal.invariant-loop-place
invariant-loop-place l = record {
  last : l.last ≡ last_end l.text l.place;
  within : IfSome l.last (λ place. place < length l.text);
}
