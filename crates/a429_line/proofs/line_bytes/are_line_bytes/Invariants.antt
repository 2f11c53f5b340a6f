use Rattle.std.proofs.Common.{◌≡◌, take}
use Rattle.std.specs.List.{list_all}
use Rattle.a429_line.specs.LineBytes.{is_line_byte}
use Rattle.a429_line.proofs.line_bytes.are_line_bytes.Given as goal

abbrev pub invariant-loop-byte : goal.invariant-loop-byte
invariant-loop-byte l = l.good ≡ list_all is_line_byte (take l.byte-index l.bytes)
