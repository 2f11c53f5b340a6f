use Rattle.std.proofs.Common.{Bool, ap}
use Rattle.std.specs.Prelude.{◌||◌}
use Rattle.a429_slots.specs.Tables.{groups_of}
use Rattle.a429_documents.specs.Load.{has_above}
use Rattle.a429_documents.proofs.BusLoads.{any_more}
use Rattle.a429_documents.proofs.load.is_any_above.Goals as goal

pub loop-number-preserved : goal.loop-number-preserved
loop-number-preserved c =
    any_more (has_above c.args.limit) (groups_of c.args.plan.now) c.loop-number.number _ c.loop-number.above _ c.group.ensures c.loop-number.invariant
    (ap (λ (b : Bool). c.loop-number.above || b) c.has_above-above.ensures)
