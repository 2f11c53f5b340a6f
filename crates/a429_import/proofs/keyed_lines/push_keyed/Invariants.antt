use Rattle.std.proofs.Common.{◌≡◌, [], take}
use Rattle.csv.specs.Records.{fields_of, partial_of}
use Rattle.a429_import.specs.KeyedLines.{with_text}
use Rattle.a429_import.proofs.keyed_lines.push_keyed.Given as goal

abbrev pub invariant-loop-place : goal.invariant-loop-place
invariant-loop-place l = record {
  fields : fields_of l.fields ≡ take l.place (with_text l.source l.key (fields_of l.line.fields));
  partial : partial_of l.fields ≡ [];
}
