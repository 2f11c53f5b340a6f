use Rattle.std.proofs.Common.{◌≡◌, length}
use Rattle.a429_cert.specs.Lines.{lines_of}
use Rattle.a429_keep.specs.Readings.{HavePeriods, nothing_read, read_of, rows_in}
use Rattle.a429_keep.proofs.reading.read_lines.Given as goal

abbrev pub invariant-loop-lines : goal.invariant-loop-lines
invariant-loop-lines l = record {
  rest : rows_in l.equipment l.form l.number (read_of l.reading) (lines_of l.lines.rest.now)
      ≡ rows_in l.equipment l.form l.fn.first nothing_read (lines_of l.fn.lines.rest.now);
  periods : HavePeriods l.reading.rows.items;
}

abbrev pub decreases-loop-lines : goal.decreases-loop-lines
decreases-loop-lines l = length (lines_of l.lines.rest.now)
