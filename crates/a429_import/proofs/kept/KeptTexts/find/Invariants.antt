use Rattle.std.proofs.Common.{◌≡◌, drop}
use Rattle.std.specs.List.{find}
use Rattle.std.specs.Str.{bytes_eq}
use Rattle.a429_import.proofs.kept.KeptTexts.find.Given as goal

abbrev pub invariant-loop-text : goal.invariant-loop-text
invariant-loop-text l = find (λ t. bytes_eq l.source t.source.items) (drop l.text-index l.self.texts.items) ≡ find (λ t. bytes_eq l.source t.source.items) l.self.texts.items
