use Rattle.std.proofs.Common.{◌≤◌}
use Rattle.a429_documents.proofs.drawing.legend.rank_of.Given as goal

abbrev pub invariant-loop-output : goal.invariant-loop-output
invariant-loop-output l = l.rank ≤ l.output
