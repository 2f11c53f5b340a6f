use Rattle.std.proofs.Common.{[], inl, inr, map, refl, string_bytes}
use Rattle.a429_console.specs.Ends.{writing}
use Rattle.a429_console.specs.Readings.{HasReadFrom}
use Rattle.a429_cli.proofs.Ran.{ran_with}
use Rattle.a429_cli.proofs.Left.{none_put}
use Rattle.a429_cli.proofs.program.run_program.Goals as goal

pub returns-in-Err-NotText : goal.returns-in-Err-NotText
returns-in-Err-NotText g c =
    let not_text = rw c.in-Err-NotText.field-0-is at c.in-Err-NotText.ensures.not_text in
    inr (inl (not_text refl, ([], (refl, c.warn.ensures.status), none_put (g.O.Output.contents c.args.out.now))))

pub returns-in-Ok : goal.returns-in-Ok
returns-in-Ok g c =
    let file = g.F.FileReader.file c.args.files.now in
    ran_with (g.A.Arguments.gives c.args.arguments.now) (g.A.Arguments.ends c.args.arguments.now) (record { tells = g.F.FileReader.tells c.args.files.now; file = file })
    (λ Says. HasReadFrom g.F.FileReader.answers Says c.args.files.now) (writing g.O.Output.contents g.O.Output.failures g.O.Output.is_flushed c.args.out.now c.run_words.new.out)
    (writing g.V.Output.contents g.V.Output.failures g.V.Output.is_flushed c.args.err.now c.run_words.new.err) c.run_words.result (map string_bytes c.in-Ok.words.items) c.in-Ok.ensures.words
    (rw c.deref.ensures.value at c.run_words.ensures)
