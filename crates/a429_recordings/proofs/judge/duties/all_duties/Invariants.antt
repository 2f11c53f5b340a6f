use Rattle.std.proofs.Common.{◌≡◌, map}
use Rattle.std.specs.List.{range_with_len}
use Rattle.a429_arguments.specs.Texts.{texts_of}
use Rattle.a429_judge.specs.Recordings.{lists_of}
use Rattle.a429_recordings.specs.JudgedPlans.{duties_of}
use Rattle.a429_recordings.proofs.judge.duties.all_duties.Given as goal

abbrev pub invariant-loop-group : goal.invariant-loop-group
invariant-loop-group l = lists_of l.all.items ≡ map (duties_of l.proposal (texts_of l.fn.tolerances)) (range_with_len 0 l.group)
