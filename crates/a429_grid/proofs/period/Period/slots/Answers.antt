use Rattle.std.proofs.Common.{arith}
use Rattle.a429_grid.proofs.Reversing.{pow_few, pow_whole}
use Rattle.a429_grid.proofs.period.Period.slots.Goals as goal

pub returns-clause-few : goal.returns-clause-few
returns-clause-few c = omega (arith, pow_few c.self.inside.exponent c.self.invariant, pow_whole c.self.inside.exponent c.self.invariant)
