use Rattle.std.proofs.Common.{◌≡◌, ◌++◌, map, take}
use Rattle.a429_recordings.specs.Comparing.{heard_by}
use Rattle.a429_recordings.proofs.survey.expected.add_heard.Given as goal

abbrev pub invariant-loop-source : goal.invariant-loop-source
invariant-loop-source l = l.expected ≡ l.fn.expected ++ map (heard_by l.equipment) (take l.source-index l.source-items)
