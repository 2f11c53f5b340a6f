use Rattle.std.proofs.Common.{◌≡◌, drop, map}
use Rattle.clap.specs.Words.{app_of}
use Rattle.a429_arguments.specs.CommandLine.{row_of, with_commands}
use Rattle.a429_arguments.proofs.command_line.with_commands.Given as goal

abbrev pub invariant-loop-row : goal.invariant-loop-row
invariant-loop-row l = with_commands (app_of l.line) (map (λ row. row_of row.0) (drop l.row-index l.rows)) ≡ with_commands (app_of l.initial.line) (map (λ row. row_of row.0) l.rows)
