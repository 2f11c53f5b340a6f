use Rattle.std.proofs.Common.{refl}
use borrow.Author.Rules.{scaled_Fits}
use Rattle.a429_slots.proofs.plans.put.Goals as goal

pub offset_bounds-groups-group : goal.offset_bounds-groups-group
offset_bounds-groups-group g c = scaled_Fits _ _ _ c.requires c.well_formed.0.1

pub bounds-groups-group : goal.bounds-groups-group
bounds-groups-group g c = c.requires

pub returns : goal.returns
returns g c = refl
