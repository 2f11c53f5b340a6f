use Rattle.std.proofs.Common.{◌≡◌, ◌++◌}
use Rattle.a429_documents.specs.Lint.{of_each, crowded_rows}
use Rattle.a429_documents.proofs.lint.groups.add_buses.Given as goal

abbrev pub invariant-loop-bus : goal.invariant-loop-bus
invariant-loop-bus l = l.found ≡ l.fn.found ++ of_each l.bus (crowded_rows l.group l.demands)
