use Rattle.std.proofs.Common.{◌≡◌, ◌++◌}
use Rattle.a429_documents.specs.Lint.{of_each, coarse_rows}
use Rattle.a429_documents.proofs.lint.groups.add_coarses.Given as goal

abbrev pub invariant-loop-output : goal.invariant-loop-output
invariant-loop-output l = l.found ≡ l.fn.found ++ of_each l.output (coarse_rows l.sources l.group.name l.group.rate l.rows l.demands)
