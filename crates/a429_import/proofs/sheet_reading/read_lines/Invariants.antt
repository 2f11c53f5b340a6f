use Rattle.std.proofs.Common.{◌<◌, List, filter}
use Rattle.csv.specs.Records.{fields_of}
use Rattle.a429_text.specs.declared.csv_line.CsvLine.{CsvLine}
use Rattle.a429_import.specs.ImportMaps.{given_texts}
use Rattle.a429_import.specs.ImportReading.{HasRead}
use Rattle.a429_import.specs.SheetReading.{ReadsSheet}
use Rattle.a429_import.specs.Imports.{has_text}
use Rattle.a429_import.proofs.sheet_reading.read_lines.Given as goal

abbrev pub invariant-loop-row : goal.invariant-loop-row
invariant-loop-row g l = record {
  turns : 0 < l.row-iterator.left;
  all : List CsvLine;
  read : HasRead l.form.separator l.text l.form.text.now l.row-iterator.rdr l.count all;
  known : ReadsSheet l.options (given_texts l.maps) l.read (filter (λ line. has_text (fields_of line.fields)) all);
}
