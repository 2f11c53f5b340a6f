use Rattle.std.proofs.Common.{◌≡◌, ◌++◌}
use Rattle.std.specs.Prelude.{flat_map}
use Rattle.std.specs.List.{range_with_len}
use Rattle.a429_survey.specs.Kept.{label_in}
use Rattle.a429_survey.proofs.rows.add_labels.Given as goal

abbrev pub invariant-loop-label : goal.invariant-loop-label
invariant-loop-label l = l.rows ≡ l.fn.rows ++ flat_map (label_in l.fn.kind l.fn.rate l.line) (range_with_len 0 l.label)
