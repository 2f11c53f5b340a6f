use Rattle.std.proofs.Common.{◌≡◌, ◌≤◌, take}
use Rattle.std.specs.Prelude.{count_by}
use Rattle.a429_judge.specs.Figures.{is_of_kind}
use Rattle.a429_judge.proofs.figures.count_of.Given as goal

abbrev pub invariant-loop-finding : goal.invariant-loop-finding
invariant-loop-finding l = record {
  value : l.count ≡ count_by (is_of_kind l.kind) (take l.finding-index l.found);
  few : l.count ≤ l.finding-index;
}
