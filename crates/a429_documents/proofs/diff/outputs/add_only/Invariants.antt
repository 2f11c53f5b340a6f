use Rattle.std.proofs.Common.{◌≡◌, ◌++◌}
use Rattle.a429_documents.specs.Diff.{each_of, only_rows}
use Rattle.a429_documents.proofs.diff.outputs.add_only.Given as goal

abbrev pub invariant-loop-number : goal.invariant-loop-number
invariant-loop-number l = l.rows ≡ l.fn.rows ++ each_of l.number (only_rows l.change l.group l.own l.other)
