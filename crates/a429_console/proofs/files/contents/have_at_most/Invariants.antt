use Rattle.std.proofs.Common.{◌≡◌, length}
use Rattle.std.specs.Prelude.{nat_le}
use Rattle.a429_logs.specs.Logs.{joined}
use Rattle.a429_console.specs.Files.{bytes_of}
use Rattle.a429_console.proofs.files.contents.have_at_most.Given as goal

abbrev pub invariant-loop-piece : goal.invariant-loop-piece
invariant-loop-piece l = nat_le (length (joined (bytes_of l.pieces))) l.most ≡ nat_le (length (joined (bytes_of l.rest))) l.left

abbrev pub decreases-loop-piece : goal.decreases-loop-piece
decreases-loop-piece l = length l.rest
