use Rattle.std.proofs.Common.{◌≡◌, ◌++◌, map, drop}
use Rattle.a429_equipment.proofs.copies.copied_outputs.Given as goal

abbrev pub invariant-loop-outputs : goal.invariant-loop-outputs
invariant-loop-outputs l = map (λ w. w.items) l.copies.items ++ map (λ w. w.items) (drop l.outputs-index l.groups) ≡ map (λ w. w.items) l.groups
