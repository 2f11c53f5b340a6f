use Rattle.std.proofs.Common.{◌≡◌, map, take}
use Rattle.std.specs.List.{AllZip}
use Rattle.a429_slots.specs.Planned.{rated_outputs}
use Rattle.a429_cert.specs.Due.{IsDueGroup}
use Rattle.a429_cert.proofs.due.due_of.Given as goal

abbrev pub invariant-loop-group : goal.invariant-loop-group
invariant-loop-group l = record {
  names : map (λ g. g.name) l.groups.items ≡ map (λ g. g.name) (take l.group l.rows);
  groups : AllZip (IsDueGroup l.equipment) (take l.group (rated_outputs l.equipment)) l.groups.items;
}
