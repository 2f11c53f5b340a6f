use Rattle.std.proofs.Common.{◌≡◌}
use Rattle.a429_cli.specs.Importing.{HasNoMillisGroup}
use Rattle.a429_cli.proofs.import.short_intervals.note_millis_groups.Given as goal

abbrev pub invariant-loop-group : goal.invariant-loop-group
invariant-loop-group l = HasNoMillisGroup l.equipment → l.warnings.items ≡ l.initial.warnings.items
