use Rattle.a429_survey.proofs.LineFigures.{new_line}
use Rattle.a429_survey.proofs.lines.Line.empty.Goals as goal

pub returns : goal.returns
returns c = new_line c.args.name.now _ c.none.result c.new.result.items c.in_ok-name.ensures.ok c.none.ensures c.new.ensures.items
