use Rattle.std.proofs.Common.{◌≡◌, false, take}
use Rattle.std.specs.List.{AllByRecursion}
use Rattle.csv.specs.Records.{fields_of}
use Rattle.a429_import.specs.ImportRows.{is_named}
use Rattle.a429_import.proofs.columns.place_of.Given as goal

abbrev pub invariant-loop-place : goal.invariant-loop-place
invariant-loop-place l = AllByRecursion (λ field. is_named l.column field ≡ false) (take l.place (fields_of l.heading.fields))
