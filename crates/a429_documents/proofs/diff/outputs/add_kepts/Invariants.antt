use Rattle.std.proofs.Common.{◌≡◌, ◌++◌}
use Rattle.a429_documents.specs.Diff.{each_of, kept_rows}
use Rattle.a429_documents.proofs.diff.outputs.add_kepts.Given as goal

abbrev pub invariant-loop-number : goal.invariant-loop-number
invariant-loop-number l = l.rows ≡ l.fn.rows ++ each_of l.number (kept_rows l.all l.has_gap l.group)
