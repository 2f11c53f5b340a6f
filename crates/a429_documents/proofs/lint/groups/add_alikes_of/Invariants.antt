use Rattle.std.proofs.Common.{◌≡◌, ◌++◌}
use Rattle.a429_documents.specs.Lint.{of_each, alike_row}
use Rattle.a429_documents.proofs.lint.groups.add_alikes_of.Given as goal

abbrev pub invariant-loop-other : goal.invariant-loop-other
invariant-loop-other l = l.found ≡ l.fn.found ++ of_each l.other (alike_row l.sources l.group l.rows l.demands l.output)
