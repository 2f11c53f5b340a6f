use Rattle.std.proofs.Common.{ℕ, ◌<◌, ◌≤◌, length}
use Rattle.a429_judge.specs.Recordings.{duty_at, group_at, lists_of}
use Rattle.a429_judge.proofs.recordings.last_source.Given as goal

abbrev pub invariant-loop-list : goal.invariant-loop-list
invariant-loop-list l = (g o : ℕ) → g < l.list-index → o < length (group_at (lists_of l.duties) g) → (duty_at (group_at (lists_of l.duties) g) o).source ≤ l.greatest
