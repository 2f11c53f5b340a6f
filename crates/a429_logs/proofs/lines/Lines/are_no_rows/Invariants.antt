use Rattle.std.proofs.Common.{◌≡◌, length}
use Rattle.a429_logs.specs.Logs.{are_no_rows}
use Rattle.a429_logs.specs.LogPieces.{left_in}
use Rattle.a429_logs.proofs.lines.Lines.are_no_rows.Given as goal

abbrev pub invariant-loop-line : goal.invariant-loop-line
invariant-loop-line l = are_no_rows l.fn.shape (left_in l.self) ≡ are_no_rows l.fn.shape (left_in l.fn.self)

abbrev pub decreases-loop-line : goal.decreases-loop-line
decreases-loop-line l = length (left_in l.self)
