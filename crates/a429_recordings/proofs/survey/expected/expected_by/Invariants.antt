use Rattle.std.proofs.Common.{◌≡◌, ◌++◌, map}
use Rattle.std.specs.Prelude.{flat_map}
use Rattle.std.specs.List.{range_with_len}
use Rattle.a429_recordings.specs.Comparing.{heard_by, sent_in}
use Rattle.a429_recordings.proofs.survey.expected.expected_by.Given as goal

abbrev pub invariant-loop-group : goal.invariant-loop-group
invariant-loop-group l = l.expected ≡ map (heard_by l.equipment) l.equipment.sources ++ flat_map (sent_in l.equipment) (range_with_len 0 l.group)
