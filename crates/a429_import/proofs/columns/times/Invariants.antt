use Rattle.std.proofs.Common.{◌≡◌, take}
use Rattle.std.specs.List.{count_by}
use Rattle.csv.specs.Records.{fields_of}
use Rattle.a429_import.specs.ImportRows.{is_named}
use Rattle.a429_import.proofs.columns.times.Given as goal

abbrev pub invariant-loop-place : goal.invariant-loop-place
invariant-loop-place l = l.count ≡ count_by (is_named l.column) (take l.place (fields_of l.heading.fields))
