use Rattle.std.proofs.Common.{◌≡◌}
use Rattle.std.specs.List.{AllByRecursion}
use Rattle.std.specs.Vec.Iter.{into_iter_items}
use Rattle.a429_console.specs.Tables.{IsTakenBy}
use Rattle.a429_replay.proofs.further.note_faults.Given as goal

abbrev pub invariant-loop-table : goal.invariant-loop-table
invariant-loop-table l = record {
  none : AllByRecursion (IsTakenBy l.station) l.fn.further.items → l.warnings.items ≡ l.initial.warnings.items;
  left : AllByRecursion (IsTakenBy l.station) l.fn.further.items → AllByRecursion (IsTakenBy l.station) (into_iter_items l.table-iterator);
}
