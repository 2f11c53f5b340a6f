use Rattle.std.proofs.Common.{◌≡◌, ◌++◌}
use Rattle.a429_documents.specs.Lint.{of_each, source_rows}
use Rattle.a429_documents.proofs.lint.sources.add_sources.Given as goal

abbrev pub invariant-loop-number : goal.invariant-loop-number
invariant-loop-number l = l.found ≡ l.fn.found ++ of_each l.number (source_rows l.equipment l.kind)
