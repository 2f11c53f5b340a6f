use Rattle.std.proofs.Common.{◌≡◌, ◌++◌}
use Rattle.a429_documents.specs.Lint.{of_each, blind_rows}
use Rattle.a429_documents.proofs.lint.receivers.add_blinds.Given as goal

abbrev pub invariant-loop-number : goal.invariant-loop-number
invariant-loop-number l = l.found ≡ l.fn.found ++ of_each l.number (blind_rows l.sources l.receiver l.name l.filters)
