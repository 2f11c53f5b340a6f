use Rattle.std.proofs.Common.{◌≡◌, ◌++◌, take}
use Rattle.std.specs.List.{flat_map}
use Rattle.a429_text.specs.Aligned.{aligned_row}
use Rattle.a429_text.proofs.aligned.put_rows.Given as goal

abbrev pub invariant-loop-row : goal.invariant-loop-row
invariant-loop-row l = l.text ≡ l.fn.text ++ flat_map (aligned_row l.widths) (take l.row-index l.rows)
