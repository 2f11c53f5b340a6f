use Rattle.std.proofs.Common.{length, ◌-◌, ◌≤◌, drop}
use Rattle.std.specs.List.{position_or_len}
use Rattle.a429_judge.specs.Judging.{is_right}
use Rattle.a429_judge.proofs.findings.first_right.Given as goal

abbrev pub invariant-loop-place : goal.invariant-loop-place
invariant-loop-place l = l.place ≤ position_or_len (λ s. is_right l.facts s (drop l.word l.accepted)) l.sends

abbrev pub decreases-loop-place : goal.decreases-loop-place
decreases-loop-place l = length l.sends - l.place
