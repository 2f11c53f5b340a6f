use Rattle.std.proofs.Common.{◌≡◌, ◌++◌, drop, map}
use Rattle.a429_text.specs.Texts.{filled}
use Rattle.a429_text.proofs.text.Text.fill.Given as goal

abbrev pub invariant-loop-place : goal.invariant-loop-place
invariant-loop-place l = l.self ++ filled (map (λ w. w.now) (drop l.place l.words)) (drop l.place l.numbers) ≡ l.fn.self ++ filled (map (λ w. w.now) l.words) l.numbers
