use Rattle.std.proofs.Common.{◌≡◌, ◌≤◌, take}
use Rattle.std.specs.Prelude.{count_by}
use Rattle.a429_judge.specs.Recordings.{overlaps}
use Rattle.a429_judge.proofs.judgements.overlapping.Given as goal

abbrev pub invariant-loop-other : goal.invariant-loop-other
invariant-loop-other l = record {
  value : l.count ≡ count_by (overlaps l.duty) (take l.other-index l.duties);
  few : l.count ≤ l.other-index;
}
