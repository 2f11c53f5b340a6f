use Rattle.std.proofs.Common.{◌≡◌, ◌≤◌}
use Rattle.std.specs.Prelude.{count_by, is_some}
use Rattle.std.specs.List.{range_with_len}
use Rattle.a429_slots.specs.Tables.{cell_at}
use Rattle.a429_documents.proofs.load.cells.cells_on.Given as goal

abbrev pub invariant-loop-slot : goal.invariant-loop-slot
invariant-loop-slot l = (l.cells ≡ count_by (λ slot. is_some (cell_at l.table l.bus slot)) (range_with_len 0 l.slot)) × (l.cells ≤ l.slot)
