use Rattle.std.proofs.Common.{◌≡◌, map, take}
use Rattle.csv.specs.Records.{fields_of}
use Rattle.a429_text.specs.CsvLines.{IsWhole}
use Rattle.a429_text.specs.Fields.{field_text}
use Rattle.a429_text.specs.Sheets.{kept_field}
use Rattle.a429_text.proofs.fields.texts_of_row.Given as goal

abbrev pub invariant-loop-cell : goal.invariant-loop-cell
invariant-loop-cell l = (fields_of l.fields ≡ map (field_text l.absent) (map kept_field (take l.cell-index l.cell-items))) × IsWhole l.fields
