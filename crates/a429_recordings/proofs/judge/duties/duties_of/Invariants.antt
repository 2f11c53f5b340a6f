use Rattle.std.proofs.Common.{◌≡◌, map}
use Rattle.std.specs.List.{range_with_len}
use Rattle.a429_arguments.specs.Texts.{texts_of}
use Rattle.a429_recordings.specs.JudgedPlans.{duty_of}
use Rattle.a429_recordings.proofs.judge.duties.duties_of.Given as goal

abbrev pub invariant-loop-output : goal.invariant-loop-output
invariant-loop-output l = l.duties ≡ map (duty_of l.proposal (texts_of l.fn.tolerances) l.fn.group) (range_with_len 0 l.output)
