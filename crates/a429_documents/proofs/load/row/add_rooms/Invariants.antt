use Rattle.std.proofs.Common.{◌≡◌, ◌++◌, take}
use Rattle.std.specs.List.{flat_map}
use Rattle.a429_documents.specs.Load.{room_rows}
use Rattle.a429_documents.proofs.load.row.add_rooms.Given as goal

abbrev pub invariant-loop-number : goal.invariant-loop-number
invariant-loop-number l = l.rows ≡ l.fn.rows ++ flat_map (room_rows l.group l.buses) (take l.number l.periods)
