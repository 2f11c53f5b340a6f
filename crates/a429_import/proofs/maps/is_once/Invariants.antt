use Rattle.std.proofs.Common.{◌≡◌, take}
use Rattle.std.specs.List.{count_by}
use Rattle.csv.specs.Records.{fields_of}
use Rattle.a429_import.specs.ImportMaps.{counts, given_texts}
use Rattle.a429_import.proofs.maps.is_once.Given as goal

abbrev pub invariant-loop-place : goal.invariant-loop-place
invariant-loop-place l = l.count ≡ count_by (counts (given_texts l.maps) l.text l.is_kept) (take l.place (fields_of l.heading.fields))
