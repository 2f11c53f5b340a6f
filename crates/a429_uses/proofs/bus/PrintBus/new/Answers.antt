use Rattle.a429_uses.proofs.Printing.{nothing_printed}
use Rattle.a429_uses.proofs.bus.PrintBus.new.Goals as goal

pub invariant_of-result : goal.invariant_of-result
invariant_of-result g c = record { printed = λ tells. nothing_printed (g.W.Write.contents c.args.out) (tells c.args.out) c.requires }
