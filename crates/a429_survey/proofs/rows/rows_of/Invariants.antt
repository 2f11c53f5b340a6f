use Rattle.std.proofs.Common.{◌≡◌, take}
use Rattle.std.specs.Prelude.{flat_map}
use Rattle.a429_survey.specs.Kept.{rows_in}
use Rattle.a429_survey.proofs.rows.rows_of.Given as goal

abbrev pub invariant-loop-line : goal.invariant-loop-line
invariant-loop-line l = l.rows ≡ flat_map (rows_in l.fn.kind l.fn.rate) (take l.line-index l.lines)
