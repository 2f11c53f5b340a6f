use Rattle.std.proofs.Common.{◌≡◌, ◌≤◌, ◌*◌}
use Rattle.std.specs.List.{range_with_len, sum_by}
use Rattle.a429_documents.specs.Diff.{group_moved}
use Rattle.a429_documents.proofs.diff.outputs.moved_count.Given as goal

abbrev pub invariant-loop-group : goal.invariant-loop-group
invariant-loop-group l = record {
  count : l.moved ≡ sum_by (group_moved l.a l.b) (range_with_len 0 l.group);
  few : l.moved ≤ 128 * l.group;
}
