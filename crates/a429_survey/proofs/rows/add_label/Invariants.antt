use Rattle.std.proofs.Common.{◌≡◌, ◌++◌}
use Rattle.std.specs.Prelude.{flat_map}
use Rattle.std.specs.List.{range_with_len}
use Rattle.a429_survey.specs.Kept.{pair_in}
use Rattle.a429_survey.proofs.rows.add_label.Given as goal

abbrev pub invariant-loop-sdi : goal.invariant-loop-sdi
invariant-loop-sdi l = l.rows ≡ l.fn.rows ++ flat_map (pair_in l.fn.kind l.fn.rate l.line l.label) (range_with_len 0 l.sdi)
