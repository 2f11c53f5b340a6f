use Rattle.std.proofs.Common.{◌≡◌, ◌++◌}
use Rattle.std.specs.List.{flat_map, range_with_len}
use Rattle.a429_arguments.specs.Texts.{texts_of}
use Rattle.a429_recordings.specs.JudgedPlans.{group_events}
use Rattle.a429_recordings.proofs.judge.events.add_events.Given as goal

abbrev pub invariant-loop-group : goal.invariant-loop-group
invariant-loop-group l = l.rows ≡ l.fn.rows ++ flat_map (group_events l.judging.proposal.now (texts_of l.judging.tolerances.now) l.judging.judge.now.noted) (range_with_len 0 l.group)
