use Rattle.std.proofs.Common.{ℕ, ◌<◌, ◌≤◌}
use Rattle.a429_judge.specs.Recordings.{duty_at}
use Rattle.a429_judge.proofs.recordings.greatest_source.Given as goal

abbrev pub invariant-loop-duty : goal.invariant-loop-duty
invariant-loop-duty l = record {
  least : l.least ≤ l.greatest;
  sources : (o : ℕ) → o < l.duty-index → (duty_at l.duties o).source ≤ l.greatest;
}
