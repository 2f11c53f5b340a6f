use Rattle.std.proofs.Common.{◌≡◌, take}
use Rattle.csv.specs.Records.{fields_of}
use Rattle.a429_import.specs.KeptFields.{kept_in}
use Rattle.a429_import.proofs.kept.kept_in.Given as goal

abbrev pub invariant-loop-place : goal.invariant-loop-place
invariant-loop-place l = l.text ≡ kept_in (fields_of l.heading.fields) (take l.place (fields_of l.line.fields))
