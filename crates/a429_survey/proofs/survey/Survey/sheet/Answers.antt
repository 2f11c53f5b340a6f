use Rattle.std.proofs.Common.{◌∙◌, ap}
use Rattle.a429_survey.specs.Past.{words_in}
use Rattle.a429_survey.specs.Survey.{survey_rows}
use Rattle.a429_survey.proofs.SheetRows.{sheet_is}
use Rattle.a429_survey.proofs.survey.Survey.sheet.Goals as goal

pub returns-clause-rows : goal.returns-clause-rows
returns-clause-rows c =
    c.in_ok-rows.ensures
    ∙ sheet_is c.args.rate (words_in c.self.inside.past) c.deref.result.now (c.deref.ensures.value ∙ c.self.invariant.kept)
    ∙ ap (survey_rows c.args.rate) c.self.view_is
