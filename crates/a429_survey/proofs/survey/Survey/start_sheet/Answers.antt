use Rattle.std.proofs.Common.{◌∙◌, ap}
use Rattle.a429_survey.specs.Past.{words_in}
use Rattle.a429_survey.specs.Starts.{start_rows}
use Rattle.a429_survey.proofs.SheetRows.{starts_are}
use Rattle.a429_survey.proofs.survey.Survey.start_sheet.Goals as goal

pub returns-clause-rows : goal.returns-clause-rows
returns-clause-rows c =
    c.in_ok-rows.ensures
    ∙ starts_are c.args.slack c.args.rate (words_in c.self.inside.past) c.deref.result.now (c.deref.ensures.value ∙ c.self.invariant.kept)
    ∙ ap (start_rows c.args.slack c.args.rate) c.self.view_is
