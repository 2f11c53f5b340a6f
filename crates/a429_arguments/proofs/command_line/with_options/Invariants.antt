use Rattle.std.proofs.Common.{◌≡◌, fold, map, drop}
use Rattle.clap.specs.Words.{app_of, with_rule}
use Rattle.a429_arguments.specs.CommandLine.{form_row, option_rule}
use Rattle.a429_arguments.proofs.command_line.with_options.Given as goal

abbrev pub invariant-loop-option : goal.invariant-loop-option
invariant-loop-option l = fold with_rule (app_of l.command) (map option_rule (drop l.option-index l.form.options.now)) ≡ fold with_rule (app_of l.initial.command) (form_row l.form).options
