use Rattle.std.proofs.Common.{take}
use Rattle.std.specs.List.{AllByRecursion}
use Rattle.a429_cli.specs.Importing.{IsShortInterval}
use Rattle.a429_cli.proofs.import.short_intervals.are_short.Given as goal

abbrev pub invariant-loop-row : goal.invariant-loop-row
invariant-loop-row l = AllByRecursion (IsShortInterval l.rate) (take l.row-index l.rows)
