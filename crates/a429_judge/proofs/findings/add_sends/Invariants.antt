use Rattle.std.proofs.Common.{◌≡◌, ◌++◌}
use Rattle.std.specs.Prelude.{flat_map}
use Rattle.std.specs.List.{range_with_len}
use Rattle.a429_judge.specs.Judging.{send_findings}
use Rattle.a429_judge.proofs.findings.add_sends.Given as goal

abbrev pub invariant-loop-place : goal.invariant-loop-place
invariant-loop-place l = l.found ≡ l.fn.found ++ flat_map (send_findings l.facts l.span l.accepted l.sends) (range_with_len 0 l.place)
