use Rattle.a429_pack.proofs.Orders.{names_each_once}
use Rattle.a429_pack.proofs.laws.orders_name_each_once.Goals as goal

pub returns : goal.returns
returns c = names_each_once
