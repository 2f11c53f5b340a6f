use Rattle.a429_table.specs.Repeats.{output_words}
use Rattle.a429_table.proofs.RowFlags.{AreFlagged}
use Rattle.a429_table.proofs.repeats.output_repeats.Given as goal

abbrev pub invariant-loop-row : goal.invariant-loop-row
invariant-loop-row l = AreFlagged (output_words l.sources) l.outputs 256 l.row l.rows.taken.items l.rows.repeats.items
