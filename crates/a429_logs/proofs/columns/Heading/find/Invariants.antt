use Rattle.std.proofs.Common.{◌≡◌, ◌+◌, length, map}
use Rattle.std.specs.List.{enumerate_from}
use Rattle.a429_logs.specs.LogColumns.{found_in, found_with, names_in, names_of, places_in}
use Rattle.a429_logs.specs.LogFields.{fields_left, fields_of}
use Rattle.a429_logs.proofs.columns.Heading.find.Given as goal

abbrev pub invariant-loop-place : goal.invariant-loop-place
invariant-loop-place l = record {
  found : found_with l.found (places_in l.column (enumerate_from l.place (names_of (map (λ text. text.now) l.self.renames.now) (fields_left l.fields)))) ≡ found_in (names_in l.self) l.column;
  counted : l.place + length (fields_left l.fields) ≡ length (fields_of l.self.separator l.self.line.now);
}
