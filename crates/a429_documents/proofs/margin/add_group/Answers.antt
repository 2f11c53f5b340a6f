use Rattle.a429_documents.proofs.MarginGroups.{above_others, buses_count, windows_there}
use Rattle.a429_documents.proofs.margin.add_group.Goals as goal

pub bound_of-requires-clause-windows : goal.bound_of-requires-clause-windows
bound_of-requires-clause-windows c = windows_there _ _ _ _ c.group.invariant.planned

pub add_group_row-requires : goal.add_group_row-requires
add_group_row-requires c = above_others _ _ _ _ c.group.invariant.planned c.fewest_by_demand.ensures.only c.group.invariant.some

pub choice-chosen-requires-clause-count : goal.choice-chosen-requires-clause-count
choice-chosen-requires-clause-count c =
    rw (c.deref.ensures.value, c.in_ok-periods.ensures, c.buses.ensures.value)
    (buses_count _ _ _ _ c.group.invariant.planned c.fewest_by_demand.ensures.only c.group.invariant.some)
