use Rattle.std.proofs.Common.{take}
use Rattle.std.specs.List.{flat_map}
use Rattle.std.specs.Fmt.{decimal}
use Rattle.std.specs.Io.KnownBytes.{Appends}
use Rattle.a429_cli.proofs.word.write_digits.Given as goal

abbrev pub invariant-loop-digit : goal.invariant-loop-digit
invariant-loop-digit g l = Appends (g.W.Write.contents l.initial.out) (g.W.Write.contents l.out) (flat_map decimal (take l.digit-index l.digits))
