use Rattle.std.proofs.Common.{◌≡◌, length, map, take}
use Rattle.std.specs.List.{range_with_len}
use Rattle.a429_documents.specs.Load.{cells_on}
use Rattle.a429_documents.proofs.load.cells.loads.Given as goal

abbrev pub invariant-loop-bus : goal.invariant-loop-bus
invariant-loop-bus l = (take l.bus l.loads ≡ map (cells_on l.table) (range_with_len 0 l.bus)) × (length l.loads ≡ 16)
