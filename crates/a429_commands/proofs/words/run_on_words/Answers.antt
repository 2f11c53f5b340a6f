use Rattle.a429_console.specs.Ends.{writing}
use Rattle.a429_arguments.specs.Texts.{texts_of}
use Rattle.a429_console.specs.Readings.{HasReadFrom}
use Rattle.a429_commands.proofs.AllWords.{gets_its_words}
use Rattle.a429_commands.proofs.words.run_on_words.Goals as goal

pub returns : goal.returns
returns g c =
    gets_its_words (texts_of c.args.words.now) (record { tells = g.F.FileReader.tells c.args.files.now; file = g.F.FileReader.file c.args.files.now })
    (λ Says. HasReadFrom g.F.FileReader.answers Says c.args.files.now) (writing g.O.Output.contents g.O.Output.failures g.O.Output.is_flushed c.args.out.now c.run_program.new.out)
    (writing g.V.Output.contents g.V.Output.failures g.V.Output.is_flushed c.args.err.now c.run_program.new.err) c.run_program.result c.run_program.ensures
