use Rattle.std.proofs.Common.{◌≢◌, ◌≤◌, drop, length}
use Rattle.std.specs.List.{All}
use Rattle.a429_console.proofs.files.pieces.cut_last_line.Given as goal

abbrev pub invariant-loop-at : goal.invariant-loop-at
invariant-loop-at l = (l.at ≤ length l.bytes) × All (λ b. b ≢ 10) (drop l.at l.bytes)

abbrev pub decreases-loop-at : goal.decreases-loop-at
decreases-loop-at l = l.at
