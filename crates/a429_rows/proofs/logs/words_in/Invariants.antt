use Rattle.std.proofs.Common.{length}
use Rattle.a429_logs.specs.LogsLeft.{entries_left}
use Rattle.a429_rows.proofs.logs.words_in.Given as goal

abbrev pub decreases-loop-entry : goal.decreases-loop-entry
decreases-loop-entry g l = length (entries_left l.reader)
