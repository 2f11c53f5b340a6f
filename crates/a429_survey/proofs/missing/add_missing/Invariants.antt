use Rattle.std.proofs.Common.{◌≡◌, ◌++◌, take}
use Rattle.std.specs.Prelude.{flat_map}
use Rattle.a429_survey.specs.Kept.{missing_in}
use Rattle.a429_survey.proofs.missing.add_missing.Given as goal

abbrev pub invariant-loop-each : goal.invariant-loop-each
invariant-loop-each l = l.rows ≡ l.fn.rows ++ flat_map (missing_in l.lines) (take l.each-index l.expected)
