use Rattle.a429_table.specs.Repeats.{source_words}
use Rattle.a429_table.proofs.RowFlags.{AreFlagged}
use Rattle.a429_table.proofs.repeats.source_repeats.Given as goal

abbrev pub invariant-loop-row : goal.invariant-loop-row
invariant-loop-row l = AreFlagged source_words l.sources 4096 l.row l.rows.taken.items l.rows.repeats.items
