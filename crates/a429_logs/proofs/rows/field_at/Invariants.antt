use Rattle.std.proofs.Common.{◌≡◌, ◌≤◌, drop, length}
use Rattle.a429_logs.specs.LogFields.{fields_left, fields_of}
use Rattle.a429_logs.proofs.rows.field_at.Given as goal

abbrev pub invariant-loop-passed : goal.invariant-loop-passed
invariant-loop-passed l = record {
  left : drop l.passed (fields_of l.fn.separator l.fn.line) ≡ fields_left l.fields;
  within : l.passed ≤ length (fields_of l.fn.separator l.fn.line);
}
