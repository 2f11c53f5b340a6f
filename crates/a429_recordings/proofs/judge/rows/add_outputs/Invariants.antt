use Rattle.std.proofs.Common.{◌≡◌, ◌++◌, map}
use Rattle.std.specs.List.{list_any, range_with_len}
use Rattle.a429_arguments.specs.Texts.{texts_of}
use Rattle.a429_recordings.specs.JudgedPlans.{is_bad_at, judged_row}
use Rattle.a429_recordings.proofs.judge.rows.add_outputs.Given as goal

abbrev pub invariant-loop-output : goal.invariant-loop-output
invariant-loop-output l = record {
  rows : l.rows ≡ l.fn.rows ++ map (judged_row l.judging.proposal.now (texts_of l.judging.tolerances.now) l.judging.judge.now.noted l.fn.group) (range_with_len 0 l.output);
  found : l.found ≡ list_any (is_bad_at l.judging.proposal.now (texts_of l.judging.tolerances.now) l.judging.judge.now.noted l.fn.group) (range_with_len 0 l.output);
}
