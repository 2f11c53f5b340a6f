use Rattle.std.proofs.Common.{◌≡◌, ◌≤◌, drop, length}
use Rattle.a429_logs.specs.LogFields.{fields_left, fields_of}
use Rattle.a429_logs.specs.LogRows.{word_place}
use Rattle.a429_logs.proofs.CaughtFields.{seen}
use Rattle.a429_logs.proofs.rows.row_fields.Given as goal

abbrev pub invariant-loop-place : goal.invariant-loop-place
invariant-loop-place l = record {
  left : drop l.place (fields_of l.fn.separator l.fn.line) ≡ fields_left l.fields;
  within : l.place ≤ length (fields_of l.fn.separator l.fn.line);
  time : l.time ≡ seen l.places.time l.place (fields_of l.fn.separator l.fn.line);
  name : l.name ≡ seen l.places.name l.place (fields_of l.fn.separator l.fn.line);
  word : l.word ≡ seen (word_place l.places.word) l.place (fields_of l.fn.separator l.fn.line);
}
