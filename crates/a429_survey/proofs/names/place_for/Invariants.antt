use Rattle.std.proofs.Common.{◌-◌, ◌≤◌, length}
use Rattle.a429_survey.specs.Kept.{names_in, place_for}
use Rattle.a429_survey.proofs.names.place_for.Given as goal

abbrev pub invariant-loop-low : goal.invariant-loop-low
invariant-loop-low l = (l.low ≤ place_for l.name (names_in l.lines)) × (place_for l.name (names_in l.lines) ≤ l.high) × (l.high ≤ length l.lines)

abbrev pub decreases-loop-low : goal.decreases-loop-low
decreases-loop-low l = l.high - l.low
