use Rattle.std.proofs.Common.{◌≡◌, take}
use Rattle.std.specs.List.{count_by}
use Rattle.std.specs.Str.{bytes_eq}
use Rattle.a429_import.specs.Renamed.{texts_of}
use Rattle.a429_import.proofs.renamed.times.Given as goal

abbrev pub invariant-loop-other : goal.invariant-loop-other
invariant-loop-other l = l.count ≡ count_by (bytes_eq l.name) (texts_of (take l.other-index l.names))
