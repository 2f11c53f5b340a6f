use Rattle.std.proofs.Common.{◌≡◌, ◌++◌}
use Rattle.std.specs.List.{flat_map, range_with_len}
use Rattle.a429_documents.specs.Drawing.{first_drawn}
use Rattle.a429_documents.specs.PlannedGroups.{group_at}
use Rattle.a429_documents.specs.PlanSheets.{group_rows}
use Rattle.a429_documents.proofs.sheets.add_groups.Given as goal

abbrev pub invariant-loop-place : goal.invariant-loop-place
invariant-loop-place l = l.rows ≡ l.fn.rows ++ flat_map (λ n. group_rows l.sheet (group_at l.fn.proposal.station l.fn.proposal.plan n)) (range_with_len (first_drawn l.fn.group) l.place)
