use Rattle.std.proofs.Common.{◌∙◌, arith}
use Rattle.a429_documents.specs.Load.{shares_of}
use Rattle.a429_documents.proofs.BusLoads.{demand_more}
use Rattle.a429_documents.proofs.load.limit.demand_from.Goals as goal

pub loop-output-preserved : goal.loop-output-preserved
loop-output-preserved c = (
  demand_more c.args.size (shares_of c.args.table.now) c.loop-output.output c.share.result c.from-demand.result c.loop-output.demand c.share.ensures.value (c.from-demand.ensures ∙ c.if_from.ensures.value) c.loop-output.invariant.0,
  omega (arith, c.loop-output.invariant.1, c.share.ensures.few, c.if_from.ensures.few, c.from-demand.ensures),
)
