use Rattle.std.proofs.Common.{arith}
use Rattle.a429_pack.proofs.Widenings.{taken_first}
use Rattle.a429_pack.proofs.widening.take.Goals as goal

pub loop-digits-init : goal.loop-digits-init
loop-digits-init c = taken_first c.args.frame c.args.needed c.args.periods.now c.clear.new.chosen (omega (arith, c.clear.auto.chosen, c.requires.each)) c.clear.ensures c.requires.enough
