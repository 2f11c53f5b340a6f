use Rattle.std.proofs.Common.{◌≡◌, ◌++◌, map}
use Rattle.a429_documents.specs.Lint.{of_each, group_rows}
use Rattle.a429_documents.proofs.lint.groups.add_groups.Given as goal

abbrev pub invariant-loop-number : goal.invariant-loop-number
invariant-loop-number l = l.found ≡ l.fn.found ++ of_each l.number (group_rows l.equipment (map (λ v. v.items) l.asked) l.kind)
