use Rattle.std.proofs.Common.{take}
use Rattle.std.specs.List.{flat_map}
use Rattle.std.specs.Io.KnownBytes.{Appends}
use Rattle.csv.specs.Writing.{default_writer, row_text, text_written}
use Rattle.a429_text.specs.CsvLines.{IsAtLine}
use Rattle.a429_text.proofs.csv_text.write_rows.Given as goal

abbrev pub invariant-loop-row : goal.invariant-loop-row
invariant-loop-row g l = record {
  line : IsAtLine l.writer;
  text : Appends (text_written g.W.Write.contents l.fn.writer) (text_written g.W.Write.contents l.writer) (flat_map (row_text default_writer) (take l.row-index l.rows));
}
