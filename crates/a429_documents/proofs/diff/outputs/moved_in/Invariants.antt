use Rattle.std.proofs.Common.{◌≡◌, ◌≤◌}
use Rattle.std.specs.List.{count_by, range_with_len}
use Rattle.a429_documents.specs.Diff.{is_moved}
use Rattle.a429_documents.proofs.diff.outputs.moved_in.Given as goal

abbrev pub invariant-loop-number : goal.invariant-loop-number
invariant-loop-number l = record {
  count : l.moved ≡ count_by (is_moved l.group) (range_with_len 0 l.number);
  few : l.moved ≤ l.number;
}
