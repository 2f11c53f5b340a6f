use Rattle.std.proofs.Common.{◌≡◌, ◌-◌, ◌≤◌, length, take}
use Rattle.std.specs.Io.KnownBytes.{Appends, append_known}
use Rattle.a429_line.specs.LineBytes.{symbols_of}
use Rattle.a429_line.specs.Reports.{reports}
use Rattle.a429_line.specs.KeptLines.{StandsForLine}
use Rattle.a429_cli.specs.LineReports.{printed}
use Rattle.a429_cli.proofs.lines.print_line.Given as goal

abbrev pub invariant-loop-found : goal.invariant-loop-found
invariant-loop-found g l = record {
  within : l.at ≤ length l.line.bytes.items;
  stands : StandsForLine (symbols_of (take l.at l.line.bytes.items)) l.reader;
  printed : Appends (append_known (g.O.Output.contents l.initial.out) l.initial.lines.items) (append_known (g.O.Output.contents l.out) l.lines.items)
      (printed l.form l.line.filters (reports (symbols_of (take l.at l.line.bytes.items))));
  kept : g.O.Output.failures l.out ≡ g.O.Output.failures l.initial.out;
}

abbrev pub decreases-loop-found : goal.decreases-loop-found
decreases-loop-found g l = length l.line.bytes.items - l.at
