use Rattle.std.proofs.Common.{◌≡◌, drop, map}
use Rattle.a429_text.specs.Renames.{renamed}
use Rattle.a429_text.proofs.renames.renamed.Given as goal

abbrev pub invariant-loop-text : goal.invariant-loop-text
invariant-loop-text l = renamed (map (λ text. text.now) (drop l.text-index l.renames)) l.name ≡ renamed (map (λ text. text.now) l.renames) l.name
