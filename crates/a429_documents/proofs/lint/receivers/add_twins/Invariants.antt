use Rattle.std.proofs.Common.{◌≡◌, ◌++◌}
use Rattle.a429_documents.specs.Lint.{of_each, twin_rows}
use Rattle.a429_documents.proofs.lint.receivers.add_twins.Given as goal

abbrev pub invariant-loop-later : goal.invariant-loop-later
invariant-loop-later l = l.found ≡ l.fn.found ++ of_each l.later (twin_rows l.receivers l.number l.receiver)
