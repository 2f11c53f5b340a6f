use Rattle.std.proofs.Common.{arith}
use Rattle.std.proofs.lemmas.Grind.{common_steps}
use Rattle.a429_line.proofs.Slots.{bits_none, bits_next}
use Rattle.a429_line.proofs.slot.write_bits.Goals as goal

pub loop-place-init : goal.loop-place-init
loop-place-init c = bits_none c.args.raw

pub loop-place-preserved : goal.loop-place-preserved
loop-place-preserved c = bits_next _ _ _ _ _ (omega arith) c.loop-place.invariant c.level.ensures (grind (arith, common_steps))
