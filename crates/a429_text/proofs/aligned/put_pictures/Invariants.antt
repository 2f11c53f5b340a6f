use Rattle.std.proofs.Common.{◌≡◌, ◌++◌, take}
use Rattle.a429_text.specs.Aligned.{shown}
use Rattle.a429_text.proofs.aligned.put_pictures.Given as goal

abbrev pub invariant-loop-byte : goal.invariant-loop-byte
invariant-loop-byte l = l.text ≡ l.fn.text ++ shown (take l.byte-index l.field)
