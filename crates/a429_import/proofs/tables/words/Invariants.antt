use Rattle.std.proofs.Common.{◌≡◌, ◌++◌, drop, map}
use Rattle.toml.specs.Data.{string}
use Rattle.toml.specs.View.{view}
use Rattle.a429_import.proofs.tables.words.Given as goal

abbrev pub invariant-loop-word : goal.invariant-loop-word
invariant-loop-word l = map view l.values.items ++ map (λ w. string w) (map (λ p. p.now) (drop l.word-index l.word-items)) ≡ map (λ w. string w) (map (λ p. p.now) l.word-items)
