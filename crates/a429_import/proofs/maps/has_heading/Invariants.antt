use Rattle.std.proofs.Common.{◌≡◌, false, take}
use Rattle.std.specs.List.{AllByRecursion}
use Rattle.csv.specs.Records.{fields_of}
use Rattle.a429_import.specs.ImportMaps.{is_about}
use Rattle.a429_import.proofs.maps.has_heading.Given as goal

abbrev pub invariant-loop-place : goal.invariant-loop-place
invariant-loop-place l = AllByRecursion (λ field. is_about field l.text ≡ false) (take l.place (fields_of l.heading.fields))
