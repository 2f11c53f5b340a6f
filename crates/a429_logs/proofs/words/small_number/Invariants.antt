use Rattle.std.proofs.Common.{◌≡◌, ◌<◌, ◌^◌, drop}
use Rattle.a429_logs.specs.LogRows.{digits_onto}
use Rattle.a429_logs.proofs.words.small_number.Given as goal

abbrev pub invariant-loop-place : goal.invariant-loop-place
invariant-loop-place l = record {
  found : digits_onto l.base l.value (drop l.place l.text) ≡ digits_onto l.base 0 l.text;
  small : l.value < 2 ^ 19;
}
