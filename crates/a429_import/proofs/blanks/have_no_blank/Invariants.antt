use Rattle.std.proofs.Common.{◌≡◌, true, take}
use Rattle.std.specs.List.{list_all}
use Rattle.csv.specs.Records.{fields_of}
use Rattle.a429_import.specs.ImportWords.{has_no_blank}
use Rattle.a429_import.proofs.blanks.have_no_blank.Given as goal

abbrev pub invariant-loop-place : goal.invariant-loop-place
invariant-loop-place l = list_all has_no_blank (take l.place (fields_of l.fields)) ≡ true
