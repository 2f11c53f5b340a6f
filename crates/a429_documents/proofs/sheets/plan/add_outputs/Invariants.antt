use Rattle.std.proofs.Common.{◌≡◌, ◌++◌, map, take}
use Rattle.a429_slots.specs.Tables.{order_of}
use Rattle.a429_documents.specs.PlanRows.{plan_row}
use Rattle.a429_documents.specs.PlannedGroups.{output_at}
use Rattle.a429_documents.proofs.sheets.plan.add_outputs.Given as goal

abbrev pub invariant-loop-place : goal.invariant-loop-place
invariant-loop-place l = l.rows ≡ l.fn.rows ++ map (λ o. plan_row l.group (output_at l.group o)) (take l.place (order_of l.group.table))
