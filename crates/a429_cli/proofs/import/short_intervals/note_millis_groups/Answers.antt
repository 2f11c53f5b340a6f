use Rattle.std.proofs.Common.{rules}
use Rattle.a429_cli.proofs.import.short_intervals.note_millis_groups.Goals as goal
use Rattle.a429_cli.proofs.import.short_intervals.note_millis_groups.Goals.{then-is_millis, else-is_millis}

pub loop-group-preserved : goal.loop-group-preserved
loop-group-preserved c none = elim c.if-is_millis.branch [
  | then-is_millis w ↦ absurd (none c.loop-group.group (search rules) (c.is_millis.ensures w.if-is_millis.true))
  | else-is_millis w ↦ rw w.warnings-is (c.loop-group.invariant none)
]
