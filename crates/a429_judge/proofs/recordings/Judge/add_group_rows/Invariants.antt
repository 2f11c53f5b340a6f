use Rattle.std.proofs.Common.{◌≡◌, ◌++◌}
use Rattle.std.specs.Prelude.{flat_map, map}
use Rattle.std.specs.List.{range_with_len}
use Rattle.a429_judge.specs.Recordings.{group_at}
use Rattle.a429_judge.specs.Rows.{row_at}
use Rattle.a429_judge.proofs.recordings.Judge.add_group_rows.Given as goal

abbrev pub invariant-loop-place : goal.invariant-loop-place
invariant-loop-place l =
    l.rows ≡ l.fn.rows ++ flat_map (row_at l.group (map (λ n. n.now) l.names) (group_at l.self.duties l.number) l.self.noted) (range_with_len 0 l.place)
