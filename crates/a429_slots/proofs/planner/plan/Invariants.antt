use Rattle.std.proofs.Common.{◌≡◌, take}
use Rattle.std.specs.List.{AllZip, AllByRecursion}
use Rattle.a429_slots.specs.Tables.{groups_of}
use Rattle.a429_slots.specs.Planned.{IsLayout, IsPlannedAt, CanBePlannedAt, rated_outputs}
use Rattle.a429_slots.proofs.planner.plan.Given as goal

abbrev pub invariant-loop-group : goal.invariant-loop-group
invariant-loop-group g l = record {
  planned : AllZip (IsPlannedAt l.sources) (take l.group (rated_outputs l.equipment)) (groups_of l.plan);
  own : AllByRecursion (IsLayout l.sources) (groups_of l.plan);
  could : AllByRecursion CanBePlannedAt (take l.group (rated_outputs l.equipment));
  number : l.plan.number ≡ 0;
}
