use Rattle.std.proofs.Common.{◌≡◌, ℕ, ◌<◌, false, get_or}
use Rattle.a429_pack.proofs.widening.clear.Given as goal

abbrev pub invariant-loop-output : goal.invariant-loop-output
invariant-loop-output l = (i : ℕ) → i < l.output-index → get_or l.chosen i false ≡ false
