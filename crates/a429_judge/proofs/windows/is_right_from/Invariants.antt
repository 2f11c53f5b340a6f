use Rattle.std.proofs.Common.{◌≡◌, ℕ, ◌<◌, ◌≤◌, true, false, drop, get_or, length}
use Rattle.std.specs.List.{list_any}
use Rattle.a429_judge.specs.declared.facts.Mark.{Mark}
use Rattle.a429_judge.specs.Judging.{is_by, is_past, is_right}
use Rattle.a429_judge.proofs.windows.is_right_from.Given as goal

abbrev pub invariant-loop-place : goal.invariant-loop-place
invariant-loop-place l = record {
  within : l.place ≤ length l.accepted;
  right : is_right l.facts l.send (drop l.place l.accepted) ≡ false;
  past : list_any (is_past l.facts l.send.time) (drop l.place l.accepted) ≡ false;
  by : (k : ℕ) (d : Mark) → k < l.place → is_by l.facts l.send.time (get_or l.accepted k d) ≡ true;
}

abbrev pub decreases-loop-place : goal.decreases-loop-place
decreases-loop-place l = l.place
