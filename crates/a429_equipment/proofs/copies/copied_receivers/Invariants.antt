use Rattle.std.proofs.Common.{◌≡◌, take}
use Rattle.a429_equipment.proofs.copies.copied_receivers.Given as goal

abbrev pub invariant-loop-row : goal.invariant-loop-row
invariant-loop-row l = l.copies.items ≡ take l.row-index l.rows
