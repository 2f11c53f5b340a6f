use Rattle.std.proofs.Common.{◌≡◌, length}
use Rattle.a429_console.specs.Lines.{entries_after, entries_before}
use Rattle.a429_replay.specs.Kept.{TakesAllTables, events_of}
use Rattle.a429_replay.specs.Script.{line_event, script_events}
use Rattle.a429_replay.proofs.reading.read_events.Given as goal

abbrev pub invariant-loop-left : goal.invariant-loop-left
invariant-loop-left l = record {
  read : script_events l.form.names.now l.form.further l.script
      ≡ entries_before (events_of l.kept.items) (entries_after (line_event l.form.names.now l.form.further) (length (events_of l.kept.items)) l.left);
  tables : TakesAllTables l.form.further l.kept.items;
}

abbrev pub decreases-loop-left : goal.decreases-loop-left
decreases-loop-left l = length l.left
