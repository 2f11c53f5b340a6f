use Rattle.std.proofs.Common.{◌≡◌, [], take}
use Rattle.csv.specs.Records.{fields_of, partial_of}
use Rattle.a429_import.specs.FilledLines.{filled_from}
use Rattle.a429_import.proofs.sheet_reading.filled_line.Given as goal

abbrev pub invariant-loop-place : goal.invariant-loop-place
invariant-loop-place l = record {
  fields : fields_of l.fields ≡ filled_from 0 (fields_of l.heading) (fields_of l.above) (take l.place (fields_of l.line.fields));
  partial : partial_of l.fields ≡ [];
}
