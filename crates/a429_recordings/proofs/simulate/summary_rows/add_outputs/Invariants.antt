use Rattle.std.proofs.Common.{◌≡◌, ◌++◌, map}
use Rattle.std.specs.List.{range_with_len}
use Rattle.a429_recordings.specs.SummaryRuns.{kept_row}
use Rattle.a429_recordings.proofs.simulate.summary_rows.add_outputs.Given as goal

abbrev pub invariant-loop-output : goal.invariant-loop-output
invariant-loop-output l = l.rows ≡ l.fn.rows ++ map (kept_row l.proposal l.summary l.group) (range_with_len 0 l.output)
