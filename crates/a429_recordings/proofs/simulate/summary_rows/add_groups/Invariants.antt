use Rattle.std.proofs.Common.{◌≡◌, ◌++◌}
use Rattle.std.specs.List.{flat_map, range_with_len}
use Rattle.a429_recordings.specs.SummaryRuns.{kept_group}
use Rattle.a429_recordings.proofs.simulate.summary_rows.add_groups.Given as goal

abbrev pub invariant-loop-group : goal.invariant-loop-group
invariant-loop-group l = l.rows ≡ l.fn.rows ++ flat_map (kept_group l.proposal l.summary) (range_with_len 0 l.group)
