use Rattle.std.proofs.Common.{◌≡◌, ◌<◌, ◌^◌, drop}
use Rattle.a429_word.specs.Hexadecimal.{hex_onto}
use Rattle.a429_logs.proofs.ticks.hex_count.Given as goal

abbrev pub invariant-loop-digit : goal.invariant-loop-digit
invariant-loop-digit l = record { read : hex_onto 0 l.digits ≡ hex_onto l.count (drop l.digit-index l.digits); small : l.count < 16 ^ l.digit-index }
