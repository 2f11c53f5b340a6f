use Rattle.std.proofs.Common.{◌≡◌, ◌++◌, drop, false}
use Rattle.a429_import.specs.MadeNames.{dashed}
use Rattle.a429_import.proofs.made_names.shortened.Given as goal

abbrev pub invariant-loop-byte : goal.invariant-loop-byte
invariant-loop-byte l = l.name.items ++ dashed l.is_apart (drop l.byte-index l.kept) ≡ dashed false l.kept
