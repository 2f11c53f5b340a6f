use Rattle.std.proofs.Common.{◌≡◌, ◌≤◌}
use Rattle.std.specs.Prelude.{count_by}
use Rattle.std.specs.List.{range_with_len}
use Rattle.a429_documents.specs.Load.{is_open}
use Rattle.a429_documents.proofs.load.cells.room_on.Given as goal

abbrev pub invariant-loop-offset : goal.invariant-loop-offset
invariant-loop-offset l = (l.room ≡ count_by (is_open l.table l.bus l.period) (range_with_len 0 l.offset)) × (l.room ≤ l.offset)
