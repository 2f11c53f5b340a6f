use Rattle.std.proofs.Common.{◌≡◌, ◌≤◌, ◌*◌, ◌^◌, map, sum}
use Rattle.std.specs.List.{range_with_len}
use Rattle.a429_documents.specs.Load.{room_on}
use Rattle.a429_documents.proofs.load.cells.all_room.Given as goal

abbrev pub invariant-loop-bus : goal.invariant-loop-bus
invariant-loop-bus l = (l.room ≡ sum (map (λ bus. room_on l.table bus l.period) (range_with_len 0 l.bus))) × (l.room ≤ l.bus * 2 ^ 32)
