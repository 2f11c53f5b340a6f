use Rattle.a429_pack.proofs.OneOrder.{one_order}
use Rattle.a429_pack.proofs.laws.layout_orders_are_unique.Goals as goal

pub returns : goal.returns
returns c = one_order
