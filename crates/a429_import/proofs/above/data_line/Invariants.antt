use Rattle.std.proofs.Common.{◌≡◌, ◌<◌, List}
use Rattle.csv.specs.Records.{fields_of}
use Rattle.a429_text.specs.declared.csv_line.CsvLine.{CsvLine}
use Rattle.a429_import.specs.ImportReading.{HasRead}
use Rattle.a429_import.specs.FaultLines.{is_data}
use Rattle.a429_import.proofs.FaultLines.{line_number}
use Rattle.a429_import.proofs.above.data_line.Given as goal

abbrev pub invariant-loop-row : goal.invariant-loop-row
invariant-loop-row l = record {
  turns : 0 < l.row-iterator.left;
  all : List CsvLine;
  read : HasRead l.form.separator l.form.text.now l.form.text.now l.row-iterator.rdr l.count all;
  line : l.found ≡ line_number (is_data (fields_of l.heading.line.fields)) all;
}
