use Rattle.std.proofs.Common.{◌≡◌, ◌+◌, length}
use Rattle.a429_logs.specs.LogColumns.{width_from, width_of}
use Rattle.a429_logs.specs.LogFields.{fields_left, fields_of}
use Rattle.a429_logs.proofs.columns.Width.of.Given as goal

abbrev pub invariant-loop-place : goal.invariant-loop-place
invariant-loop-place l = record {
  width : width_from l.width (fields_left l.fields) ≡ width_of (fields_of l.fn.separator l.fn.line);
  all : l.width.all ≡ l.place;
  counted : l.place + length (fields_left l.fields) ≡ length (fields_of l.fn.separator l.fn.line);
}
