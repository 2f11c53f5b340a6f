use Rattle.std.proofs.Common.{◌≡◌, drop, map}
use Rattle.a429_text.specs.Renames.{has_one_from_twice}
use Rattle.a429_text.proofs.renames.has_one_from_twice.Given as goal

abbrev pub invariant-loop-place : goal.invariant-loop-place
invariant-loop-place l = has_one_from_twice (map (λ text. text.now) (drop l.place l.renames)) ≡ has_one_from_twice (map (λ text. text.now) l.renames)
