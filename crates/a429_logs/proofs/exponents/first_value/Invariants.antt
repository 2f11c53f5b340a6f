use Rattle.std.proofs.Common.{◌≡◌, ◌<◌, ◌^◌, ◌++◌, take}
use Rattle.std.specs.Str.Parse.{digits_value}
use Rattle.a429_logs.specs.LogTimes.{first_digits}
use Rattle.a429_logs.proofs.exponents.first_value.Given as goal

abbrev pub invariant-loop-place : goal.invariant-loop-place
invariant-loop-place l = record {
  value : l.value ≡ digits_value 10 (take l.place (first_digits l.fn.count (l.fn.whole ++ l.fn.fraction)));
  few : l.value < 10 ^ 18;
}
