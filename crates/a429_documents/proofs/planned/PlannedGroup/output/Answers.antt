use Rattle.std.proofs.Common.{◌<◌, length, subst, sym}
use Rattle.a429_slots.specs.Tables.{outputs_of}
use Rattle.a429_documents.specs.PlannedGroups.{PlannedGroup}
use Rattle.a429_documents.proofs.PlannedGroups.{output_is_there}
use Rattle.a429_documents.proofs.planned.PlannedGroup.output.Goals as goal

pub returns : goal.returns
returns c =
    let below = subst (λ (g : PlannedGroup). c.args.number < length (outputs_of g.table)) (sym c.self.view_is) c.requires in
    rw (← c.self.view_is)
    (output_is_there _ c.args.number _ _ _ _ _ _ _ below c.self.invariant.known c.new-output.ensures c.receivers.ensures.rows c.sources-sources.ensures.rows
    c.source.ensures c.index-sources-source.is c.place.ensures.place c.limits.ensures.limits)
