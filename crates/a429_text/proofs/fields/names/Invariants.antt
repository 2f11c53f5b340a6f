use Rattle.std.proofs.Common.{◌≡◌, map, take}
use Rattle.csv.specs.Records.{fields_of}
use Rattle.a429_text.specs.CsvLines.{IsWhole}
use Rattle.a429_text.proofs.fields.names.Given as goal

abbrev pub invariant-loop-name : goal.invariant-loop-name
invariant-loop-name l = (fields_of l.fields ≡ map (λ name. name.now) (take l.name-index l.columns)) × IsWhole l.fields
