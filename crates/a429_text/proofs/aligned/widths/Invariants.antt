use Rattle.std.proofs.Common.{◌≡◌, map}
use Rattle.std.specs.List.{range_with_len}
use Rattle.a429_text.specs.Aligned.{width_of}
use Rattle.a429_text.proofs.aligned.widths.Given as goal

abbrev pub invariant-loop-column : goal.invariant-loop-column
invariant-loop-column l = l.widths ≡ map (λ column. width_of column l.rows) (range_with_len 0 l.column)
