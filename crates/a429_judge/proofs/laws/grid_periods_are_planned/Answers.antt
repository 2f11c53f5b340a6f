use Rattle.std.proofs.Common.{ℕ, ◌≤◌, arith, subst, sym}
use Rattle.std.proofs.Math.Nat.{one-le-pow}
use Rattle.a429_judge.proofs.laws.grid_periods_are_planned.Goals as goal

pub returns : goal.returns
returns c = λ f grid some hold.
    let power = grid.0.2 in
    let least = grid.1.0 in
    let greatest = grid.1.1 in record {
      rate = some;
      least = omega (arith, least);
      greatest = omega (arith, greatest);
      period = subst (λ (p : ℕ). 1 ≤ p) (sym power) (one-le-pow grid.0.0 2 (omega arith));
      hold = hold;
    }
