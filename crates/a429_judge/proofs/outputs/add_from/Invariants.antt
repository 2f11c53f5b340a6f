use Rattle.std.proofs.Common.{length, ◌-◌}
use Rattle.a429_judge.proofs.Labels.{AreAdded}
use Rattle.a429_judge.proofs.outputs.add_from.Given as goal

abbrev pub invariant-loop-place : goal.invariant-loop-place
invariant-loop-place l = AreAdded l.duties l.word l.place l.fn.sends.items l.sends.items l.own

abbrev pub decreases-loop-place : goal.decreases-loop-place
decreases-loop-place l = length l.duties - l.place
