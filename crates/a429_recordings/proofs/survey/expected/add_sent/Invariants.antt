use Rattle.std.proofs.Common.{◌≡◌, ◌++◌, map, take}
use Rattle.a429_recordings.specs.Comparing.{sent_in_group}
use Rattle.a429_recordings.proofs.survey.expected.add_sent.Given as goal

abbrev pub invariant-loop-output : goal.invariant-loop-output
invariant-loop-output l = l.expected ≡ l.fn.expected ++ map (sent_in_group l.equipment l.group) (take l.output-index l.output-items)
