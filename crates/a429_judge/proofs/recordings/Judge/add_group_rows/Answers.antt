use Rattle.std.specs.Prelude.{map}
use Rattle.a429_judge.specs.Recordings.{group_at}
use Rattle.a429_judge.specs.Rows.{row_at}
use Rattle.a429_judge.proofs.Firsts.{range_items}
use Rattle.a429_judge.proofs.recordings.Judge.add_group_rows.Goals as goal

pub loop-place-preserved : goal.loop-place-preserved
loop-place-preserved c =
    range_items (row_at c.args.group.now (map (λ n. n.now) c.args.names.now) (group_at c.args.self.now.duties c.args.number) c.args.self.now.noted) c.loop-place.place c.args.rows.now c.loop-place.rows c.add_row.new.rows
    c.loop-place.invariant c.in_ok-add_row.ensures.row
