use Rattle.std.proofs.Common.{map, take}
use Rattle.std.specs.List.{AllZip}
use Rattle.a429_slots.specs.Asked.{IsAsked}
use Rattle.a429_slots.specs.Planned.{rated_outputs}
use Rattle.a429_documents.proofs.lint.demands.demands_of_groups.Given as goal

abbrev pub invariant-loop-group : goal.invariant-loop-group
invariant-loop-group l = AllZip (λ rated demands. AllZip (IsAsked rated.0 l.equipment.sources) rated.1 demands) (take l.group (rated_outputs l.equipment)) (map (λ v. v.items) l.all.items)
