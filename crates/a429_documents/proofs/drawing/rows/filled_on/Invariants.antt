use Rattle.std.proofs.Common.{◌≤◌, ◌*◌}
use Rattle.a429_documents.proofs.drawing.rows.filled_on.Given as goal

abbrev pub invariant-loop-output : goal.invariant-loop-output
invariant-loop-output l = l.filled ≤ 8192 * l.output
