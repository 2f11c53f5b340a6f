use Rattle.std.proofs.Common.{◌≡◌, ◌+◌, length, take}
use Rattle.std.specs.Str.Parse.{digits_value}
use Rattle.a429_logs.specs.LogTimes.{micros_digits}
use Rattle.a429_logs.proofs.times.micros.Given as goal

abbrev pub invariant-loop-place : goal.invariant-loop-place
invariant-loop-place l = l.micros ≡ digits_value 10 (take (length l.fn.whole + l.place) (micros_digits l.fn.unit l.fn.whole l.fn.fraction))
