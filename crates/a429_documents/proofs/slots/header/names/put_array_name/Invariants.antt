use Rattle.std.proofs.Common.{◌≡◌, ◌++◌, take}
use Rattle.a429_documents.specs.SlotNames.{array_name}
use Rattle.a429_documents.proofs.slots.header.names.put_array_name.Given as goal

abbrev pub invariant-loop-byte : goal.invariant-loop-byte
invariant-loop-byte l = l.text ≡ l.fn.text ++ array_name (take l.byte-index l.bytes)
