use Rattle.std.proofs.Common.{◌≡◌, [], map, take}
use Rattle.csv.specs.Records.{fields_of, partial_of}
use Rattle.a429_import.specs.ImportMaps.{given_texts, titled}
use Rattle.a429_import.proofs.maps.names_of.Given as goal

abbrev pub invariant-loop-place : goal.invariant-loop-place
invariant-loop-place l = record {
  fields : fields_of l.names ≡ map (titled (given_texts l.maps)) (take l.place (fields_of l.heading.fields));
  partial : partial_of l.names ≡ [];
}
