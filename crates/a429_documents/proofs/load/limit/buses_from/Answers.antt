use Rattle.std.proofs.Common.{◌<◌, ◌*◌, ◌/◌, arith}
use Rattle.a429_documents.specs.Load.{shares_of}
use Rattle.a429_documents.proofs.Spreading.{whole_there}
use Rattle.a429_documents.proofs.load.limit.buses_from.Goals as goal

pub div_ceil-requires : goal.div_ceil-requires
div_ceil-requires c =
    let whole : 0 < c.args.capacity / c.slots-size.result * c.slots-size.result =
    whole_there c.args.capacity c.slots-size.result c.demand_from-demand.result (shares_of c.args.table.now) c.requires.fit (omega (arith, c.slots-size.ensures.some)) c.demand_from-demand.ensures.value c.if-demand-eq0.false in
    omega (arith, c.from.ensures)
