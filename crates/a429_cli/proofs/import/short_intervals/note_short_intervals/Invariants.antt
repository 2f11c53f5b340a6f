use Rattle.std.proofs.Common.{◌≡◌}
use Rattle.a429_cli.specs.Importing.{HasNoShortGroup}
use Rattle.a429_cli.proofs.import.short_intervals.note_short_intervals.Given as goal

abbrev pub invariant-loop-group : goal.invariant-loop-group
invariant-loop-group l = HasNoShortGroup l.equipment → l.warnings.items ≡ l.initial.warnings.items
