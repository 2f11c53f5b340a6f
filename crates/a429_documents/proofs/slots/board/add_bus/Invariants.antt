use Rattle.std.proofs.Common.{◌≡◌, ◌++◌}
use Rattle.std.specs.List.{flat_map, range_with_len}
use Rattle.a429_documents.specs.SlotBoard.{board_cell}
use Rattle.a429_documents.proofs.slots.board.add_bus.Given as goal

abbrev pub invariant-loop-slot : goal.invariant-loop-slot
invariant-loop-slot l = l.rows ≡ l.fn.rows ++ flat_map (board_cell l.group l.bus) (range_with_len 0 l.slot)
