use Rattle.std.proofs.Common.{◌≡◌, ◌++◌}
use Rattle.std.specs.List.{flat_map, range_with_len}
use Rattle.a429_arguments.specs.Texts.{texts_of}
use Rattle.a429_recordings.specs.JudgedPlans.{output_events}
use Rattle.a429_recordings.proofs.judge.events.add_outputs.Given as goal

abbrev pub invariant-loop-output : goal.invariant-loop-output
invariant-loop-output l = l.rows ≡ l.fn.rows ++ flat_map (output_events l.judging.proposal.now (texts_of l.judging.tolerances.now) l.judging.judge.now.noted l.fn.group) (range_with_len 0 l.output)
