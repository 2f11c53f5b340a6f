use Rattle.std.proofs.Common.{◌≡◌, take}
use Rattle.std.specs.List.{list_any}
use Rattle.a429_slots.specs.Tables.{groups_of}
use Rattle.a429_documents.specs.Load.{has_above}
use Rattle.a429_documents.proofs.load.is_any_above.Given as goal

abbrev pub invariant-loop-number : goal.invariant-loop-number
invariant-loop-number l = l.above ≡ list_any (has_above l.limit) (take l.number (groups_of l.plan))
