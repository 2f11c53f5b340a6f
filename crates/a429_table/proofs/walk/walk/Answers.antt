use Rattle.std.proofs.Common.{append_assoc}
use Rattle.a429_table.specs.Walk.{walk}
use Rattle.a429_table.proofs.walk.walk.Goals as goal

pub returns : goal.returns
unfolding walk
returns c =
    rw (c.in_ok-push_groups.ensures, c.rows_at-3.ensures, c.in_ok-push_rows-2.ensures, c.rows_at-2.ensures, c.in_ok-push_rows.ensures, c.rows_at.ensures, c.in_ok-push.ensures.items, c.new-stops.ensures.items)
    (simp append_assoc)
