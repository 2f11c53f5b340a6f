use Rattle.std.proofs.Common.{◌≡◌, ◌+◌, ◌*◌, true}
use Rattle.std.specs.Prelude.{is_none}
use Rattle.std.specs.List.{list_all, range_with_len}
use Rattle.a429_slots.specs.Tables.{cell_at}
use Rattle.a429_documents.proofs.load.cells.is_open.Given as goal

abbrev pub invariant-loop-number : goal.invariant-loop-number
invariant-loop-number l = list_all (λ n. is_none (cell_at l.table l.bus (l.offset + n * l.period))) (range_with_len 0 l.number) ≡ true
