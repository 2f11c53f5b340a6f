use Rattle.std.proofs.Common.{◌≡◌, ◌∷◌, map, take}
use Rattle.a429_text.specs.Fields.{field_text}
use Rattle.a429_text.proofs.fields.texts_of.Given as goal

abbrev pub invariant-loop-row : goal.invariant-loop-row
invariant-loop-row l = l.texts.items ≡ map (λ name. name.now) l.columns ∷ map (map (field_text l.absent)) (take l.row-index l.row-items)
