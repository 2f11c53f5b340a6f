use Rattle.std.proofs.Common.{◌≡◌, ◌++◌, []}
use Rattle.std.specs.Prelude.{flat_map}
use Rattle.std.specs.List.{range_with_len}
use Rattle.a429_judge.specs.Figures.{interval_to}
use Rattle.a429_judge.proofs.figures.intervals.Given as goal

abbrev pub invariant-loop-place : goal.invariant-loop-place
invariant-loop-place l = l.numbers ≡ [] ++ flat_map (interval_to l.sends) (range_with_len 0 l.place)
