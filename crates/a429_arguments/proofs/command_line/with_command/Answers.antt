use Rattle.std.proofs.Common.{ap, refl, true, ◌≡◌, ◌∙◌}
use Rattle.std.proofs.lemmas.Result.{IfOk-weaker}
use Rattle.clap.proofs.SimpleLemmas.{plain_fields}
use Rattle.clap.specs.Words.{App, app_of, with_subcommand}
use Rattle.a429_arguments.specs.CommandLine.{row_app, row_of}
use Rattle.a429_arguments.specs.declared.forms.Verb.TheVariants as verb
use Rattle.a429_arguments.specs.declared.forms.Verb.{Verb}
use Rattle.a429_arguments.proofs.command_line.with_command.Goals as goal

command_is_plain : (v : Verb) → (row_app (row_of v)).top.is_plain ≡ true
command_is_plain verb.Word = refl
command_is_plain _ = refl

pub returns-in-Ok : goal.returns-in-Ok
returns-in-Ok c =
    let row = row_of c.args.verb in
    let made : app_of c.in-Ok.command ≡ row_app row = c.in-Ok.ensures ∙ ap row_app (c.form.ensures.row ∙ ap row_of c.form.ensures.verb) in
    let plain = plain_fields c.in-Ok.command (ap (λ (x : App). x.top.is_plain) made ∙ command_is_plain c.args.verb) in
    IfOk-weaker c.subcommand.result _ _ (λ r h. h.shape plain.globals ∙ ap (λ (x : App). with_subcommand (app_of c.args.line) x.top) made) c.subcommand.ensures
