use Rattle.std.proofs.Common.{◌≡◌, ◌++◌}
use Rattle.std.specs.List.{flat_map, list_any, range_with_len}
use Rattle.a429_arguments.specs.Texts.{texts_of}
use Rattle.a429_recordings.specs.JudgedPlans.{is_found_in, judged_group}
use Rattle.a429_recordings.proofs.judge.rows.add_groups.Given as goal

abbrev pub invariant-loop-group : goal.invariant-loop-group
invariant-loop-group l = record {
  rows : l.rows ≡ l.fn.rows ++ flat_map (judged_group l.judging.proposal.now (texts_of l.judging.tolerances.now) l.judging.judge.now.noted) (range_with_len 0 l.group);
  found : l.found ≡ list_any (is_found_in l.judging.proposal.now (texts_of l.judging.tolerances.now) l.judging.judge.now.noted) (range_with_len 0 l.group);
}
