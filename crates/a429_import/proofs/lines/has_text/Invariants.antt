use Rattle.std.proofs.Common.{◌≡◌, false, take}
use Rattle.std.specs.List.{AllByRecursion}
use Rattle.csv.specs.Records.{fields_of}
use Rattle.a429_import.specs.Imports.{is_filled}
use Rattle.a429_import.proofs.lines.has_text.Given as goal

abbrev pub invariant-loop-place : goal.invariant-loop-place
invariant-loop-place l = AllByRecursion (λ field. is_filled field ≡ false) (take l.place (fields_of l.line.fields))
