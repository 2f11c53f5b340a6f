use Rattle.std.proofs.Common.{◌≡◌, ◌<◌, ◌≤◌, ℕ, false, length, slice_index_or}
use Rattle.std.specs.Prelude.{◌||◌}
use Rattle.a429_filter.specs.Filters.{passes}
use Rattle.a429_filter.proofs.passing.Passing.with.Given as goal

-- the labels below are done, and the others are as they were
abbrev pub invariant-loop-value : goal.invariant-loop-value
invariant-loop-value l = record {
  sized : length l.labels ≡ 256;
  done : (label : ℕ) → label < l.value → slice_index_or l.labels label false ≡ (slice_index_or l.initial.labels label false || passes l.filter label);
  left : (label : ℕ) → l.value ≤ label → slice_index_or l.labels label false ≡ slice_index_or l.initial.labels label false;
}
