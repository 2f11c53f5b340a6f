use Rattle.std.proofs.Common.{◌<◌, ◌∙◌, length, arith}
use Rattle.std.proofs.lemmas.List.{length-set}
use Rattle.a429_documents.specs.Load.{cells_on}
use Rattle.a429_documents.proofs.BusLoads.{loads_more}
use Rattle.a429_documents.proofs.load.cells.loads.Goals as goal

pub loop-bus-preserved : goal.loop-bus-preserved
loop-bus-preserved c =
    let inside : c.loop-bus.bus < length c.loop-bus.loads = omega (arith, c.loop-bus.invariant.1, c.loop-bus-test.true, c.buses-bus-end.ensures.few) in (
      loads_more (cells_on c.args.table.now) c.loop-bus.loads c.loop-bus.bus c.cells_on.result inside c.cells_on.ensures c.loop-bus.invariant.0,
      length-set c.loop-bus.loads c.loop-bus.bus c.cells_on.result ∙ c.loop-bus.invariant.1,
    )
