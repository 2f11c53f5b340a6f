use Rattle.std.proofs.Common.{◌≡◌, ◌++◌, map, take}
use Rattle.std.specs.List.{flat_map}
use Rattle.a429_documents.specs.Lint.{finding_rows}
use Rattle.a429_documents.proofs.lint.add_findings.Given as goal

abbrev pub invariant-loop-number : goal.invariant-loop-number
invariant-loop-number l = l.found ≡ l.fn.found ++ flat_map (finding_rows l.equipment (map (λ v. v.items) l.asked)) (take l.number l.kinds)
