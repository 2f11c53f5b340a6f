use Rattle.std.proofs.Common.{◌≡◌, subst, sym}
use Rattle.a429_equipment.specs.Sound.{IsSound}
use Rattle.a429_documents.specs.PlannedGroups.{IsPlannedGroup, group_at}
use Rattle.a429_documents.proofs.PlannedGroups.{group_is, group_is_planned}
use Rattle.a429_documents.proofs.planned.PlannedGroup.of.Goals as goal

whole : (c : goal.After-group)
    → record { station = c.equipment-equipment.result.now; row = c.index-groups-number.result; rows = c.outputs.result.now; table = c.group.result.now }
    ≡ group_at c.args.proposal.now.station c.args.proposal.now.plan c.args.number
whole c =
    group_is _ _ _ _ c.args.number _ _ _ _ c.equipment-equipment.ensures.equipment c.plan.ensures.plan c.groups-groups.ensures.rows c.requires c.plan.ensures.own.count
    c.index-groups-number.is c.outputs.ensures.rows c.group.ensures

pub invariant_of-result : goal.invariant_of-result
invariant_of-result c =
    let sound : IsSound c.args.proposal.now.station = subst IsSound c.equipment-equipment.ensures.equipment c.rows_are_sound.ensures in
    subst IsPlannedGroup (sym (whole c)) (group_is_planned c.args.proposal.now.station c.args.proposal.now.plan c.args.number sound c.plan.ensures.own c.requires)

pub returns : goal.returns
returns c = whole c
