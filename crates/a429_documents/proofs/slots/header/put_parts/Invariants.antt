use Rattle.std.proofs.Common.{◌≡◌, ◌++◌}
use Rattle.std.specs.List.{flat_map, range_with_len}
use Rattle.a429_documents.specs.Drawing.{first_drawn}
use Rattle.a429_documents.specs.PlannedGroups.{group_at}
use Rattle.a429_documents.specs.SlotHeader.{group_part}
use Rattle.a429_documents.proofs.slots.header.put_parts.Given as goal

abbrev pub invariant-loop-place : goal.invariant-loop-place
invariant-loop-place l = l.text ≡ l.fn.text ++ flat_map (λ n. group_part (group_at l.fn.proposal.station l.fn.proposal.plan n)) (range_with_len (first_drawn l.fn.group) l.place)
