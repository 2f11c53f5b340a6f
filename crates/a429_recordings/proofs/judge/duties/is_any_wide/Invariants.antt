use Rattle.std.proofs.Common.{◌≡◌}
use Rattle.std.specs.List.{list_any, range_with_len}
use Rattle.a429_arguments.specs.Texts.{texts_of}
use Rattle.a429_recordings.specs.JudgedPlans.{is_wide_in}
use Rattle.a429_recordings.proofs.judge.duties.is_any_wide.Given as goal

abbrev pub invariant-loop-group : goal.invariant-loop-group
invariant-loop-group l = l.wide ≡ list_any (is_wide_in l.proposal (texts_of l.fn.tolerances)) (range_with_len 0 l.group)
