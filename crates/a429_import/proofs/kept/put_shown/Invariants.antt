use Rattle.std.proofs.Common.{◌≡◌, ◌++◌, drop, map}
use Rattle.a429_import.specs.KeptFields.{shown_byte}
use Rattle.a429_import.proofs.kept.put_shown.Given as goal

abbrev pub invariant-loop-byte : goal.invariant-loop-byte
invariant-loop-byte l = l.text ++ map (shown_byte l.is_text l.is_heading) (drop l.byte-index l.bytes) ≡ l.initial.text ++ map (shown_byte l.is_text l.is_heading) l.bytes
