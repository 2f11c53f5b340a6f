use Rattle.std.proofs.Common.{◌≡◌, drop, map}
use Rattle.std.specs.List.{list_any}
use Rattle.std.specs.Prelude.{is_some}
use Rattle.a429_text.specs.Renames.{taken_as}
use Rattle.a429_text.proofs.renames.has_from.Given as goal

abbrev pub invariant-loop-text : goal.invariant-loop-text
invariant-loop-text l =
    list_any (λ text. is_some (taken_as l.name text)) (map (λ text. text.now) (drop l.text-index l.renames))
    ≡ list_any (λ text. is_some (taken_as l.name text)) (map (λ text. text.now) l.renames)
