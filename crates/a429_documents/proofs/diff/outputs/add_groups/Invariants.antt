use Rattle.std.proofs.Common.{◌≡◌, ◌++◌}
use Rattle.a429_documents.specs.Diff.{each_of, group_both_rows}
use Rattle.a429_documents.proofs.diff.outputs.add_groups.Given as goal

abbrev pub invariant-loop-group : goal.invariant-loop-group
invariant-loop-group l = l.rows ≡ l.fn.rows ++ each_of l.group (group_both_rows l.all l.has_gap l.a l.b)
