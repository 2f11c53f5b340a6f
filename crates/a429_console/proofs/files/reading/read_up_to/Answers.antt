use Rattle.a429_console.specs.Readings.{answer_by}
use Rattle.a429_console.proofs.ReadingParts.{read_once}
use Rattle.a429_console.proofs.files.reading.read_up_to.Goals as goal

pub returns : goal.returns
returns g c = read_once c.args.name.now (answer_by g.C.Contents.text c.ask-answer.result) c.ask-answer.ensures (λ file is. c.contents_of_answer.ensures file is)
