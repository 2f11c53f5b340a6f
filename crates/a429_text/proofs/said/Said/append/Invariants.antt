use Rattle.std.proofs.Common.{◌≡◌, ◌++◌, take}
use Rattle.a429_text.specs.Said.{bytes_of}
use Rattle.a429_text.proofs.said.Said.append.Given as goal

abbrev pub invariant-loop-byte : goal.invariant-loop-byte
invariant-loop-byte l = bytes_of l.self ≡ bytes_of l.fn.self ++ take l.byte-index l.bytes
