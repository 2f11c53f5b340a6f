use Rattle.std.proofs.Common.{◌≡◌, [], map, take}
use Rattle.csv.specs.Records.{fields_of, partial_of}
use Rattle.a429_import.specs.ImportWords.{trimmed}
use Rattle.a429_import.proofs.blanks.copy_trimmed.Given as goal

abbrev pub invariant-loop-place : goal.invariant-loop-place
invariant-loop-place l = record {
  fields : fields_of l.copy ≡ map trimmed (take l.place (fields_of l.fields));
  partial : partial_of l.copy ≡ [];
}
