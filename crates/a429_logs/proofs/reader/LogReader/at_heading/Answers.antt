use Rattle.std.proofs.Common.{◌≡◌, ◌∷◌, ℕ, List, length, refl, rules, ap, arith}
use Rattle.a429_logs.specs.LogPieces.{left_in}
use Rattle.a429_logs.specs.LogsLeft.{lines_left}
use Rattle.a429_logs.specs.declared.reader.PassedOver.{PassedOver}
use Rattle.a429_logs.proofs.Titles.{heading-count, none-more}
use Rattle.a429_logs.proofs.reader.LogReader.at_heading.Goals as goal

pub loop-line-smaller : goal.loop-line-smaller
loop-line-smaller c =
    let taken : lines_left c.loop-line.self ≡ (c.in-Some.line, c.in-Some.text.now) ∷ left_in c.next.new.self = search rules in
    omega (arith, ap (λ (lines : List (ℕ × List ℕ)). length lines) taken)

pub loop-line-init : goal.loop-line-init
loop-line-init c = record {
  here = refl;
  heading = none-more _ (heading-count c.args.self.reading (lines_left c.args.self));
  reading = refl;
  tail = ap (λ (p : PassedOver). p.tail) c.requires;
  pieces = refl;
  piece = omega arith;
}
