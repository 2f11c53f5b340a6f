use Rattle.a429_judge.proofs.Labels.{IsIndexedFrom}
use Rattle.a429_judge.proofs.outputs.index.Given as goal

abbrev pub invariant-loop-place : goal.invariant-loop-place
invariant-loop-place l = IsIndexedFrom l.duties l.place l.first l.next

abbrev pub decreases-loop-place : goal.decreases-loop-place
decreases-loop-place l = l.place
