use Rattle.std.proofs.Common.{◌≡◌, ◌-◌, ◌++◌}
use Rattle.a429_import.specs.Renamed.{free_name, long_name, texts_of}
use Rattle.a429_import.proofs.renamed.long_name.Given as goal

abbrev pub invariant-loop-number : goal.invariant-loop-number
invariant-loop-number l = free_name (texts_of l.names ++ texts_of l.others) l.base l.end (1000 - l.number) l.number ≡ long_name (texts_of l.names ++ texts_of l.others) l.base l.end
