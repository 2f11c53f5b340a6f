use Rattle.std.proofs.Common.{◌∙◌, sym, ap}
use Rattle.a429_line.specs.KeptLines.{left}
use Rattle.a429_line.proofs.Steps.{rest_of}
use Rattle.a429_line.proofs.reader.LineReader.rest.Goals as goal

pub returns-in-Within : goal.returns-in-Within
returns-in-Within c x S = sym (rest_of x c.args.self.now S ∙ ap left (sym c.self.view_is ∙ c.in-Within.is))

pub returns-in-Between : goal.returns-in-Between
returns-in-Between c x S = sym (rest_of x c.args.self.now S ∙ ap left (sym c.self.view_is ∙ c.in-Between.is))

pub returns-in-Reported : goal.returns-in-Reported
returns-in-Reported c x S = sym (rest_of x c.args.self.now S ∙ ap left (sym c.self.view_is ∙ c.in-Reported.is))
