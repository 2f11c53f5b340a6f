use Rattle.std.proofs.Common.{◌≡◌, ◌<◌, ◌^◌, drop}
use Rattle.a429_word.specs.Hexadecimal.{hex_onto}
use Rattle.a429_logs.proofs.hexadecimal.eight_digits.Given as goal

abbrev pub invariant-loop-digit : goal.invariant-loop-digit
invariant-loop-digit l = record { read : hex_onto 0 l.text ≡ hex_onto l.raw (drop l.digit-index l.text); small : l.raw < 16 ^ l.digit-index }
