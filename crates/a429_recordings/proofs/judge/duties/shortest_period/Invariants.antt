use Rattle.std.proofs.Common.{◌≡◌}
use Rattle.std.specs.Prelude.{min}
use Rattle.std.specs.List.{fold, range_with_len}
use Rattle.a429_slots.specs.Tables.{frame_of}
use Rattle.a429_recordings.specs.JudgedPlans.{period_at}
use Rattle.a429_recordings.specs.Timeline.{table_of}
use Rattle.a429_recordings.proofs.judge.duties.shortest_period.Given as goal

abbrev pub invariant-loop-output : goal.invariant-loop-output
invariant-loop-output l =
    l.shortest ≡ fold (λ n o. min n (period_at l.proposal l.fn.group o)) (frame_of (table_of l.proposal l.fn.group)) (range_with_len 0 l.output)
