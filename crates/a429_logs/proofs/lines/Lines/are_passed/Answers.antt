use Rattle.std.proofs.Common.{◌≡◌, ◌∷◌, ℕ, List, length, rules, ap, arith}
use Rattle.a429_logs.specs.LogPieces.{left_in}
use Rattle.a429_logs.proofs.lines.Lines.are_passed.Goals as goal

pub loop-line-smaller : goal.loop-line-smaller
unfolding left_in
loop-line-smaller c =
    let taken : left_in c.loop-line.self ≡ (c.in-Some.line, c.in-Some.text.now) ∷ left_in c.next.new.self = search rules in
    omega (arith, ap (λ (lines : List (ℕ × List ℕ)). length lines) taken)
