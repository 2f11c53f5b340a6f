use Rattle.std.proofs.Common.{◌≡◌, take}
use Rattle.std.specs.List.{list_any}
use Rattle.a429_survey.specs.Expected.{is_finding}
use Rattle.a429_survey.proofs.missing.has_finding.Given as goal

abbrev pub invariant-loop-row : goal.invariant-loop-row
invariant-loop-row l = l.found ≡ list_any is_finding (take l.row-index l.row-items)
