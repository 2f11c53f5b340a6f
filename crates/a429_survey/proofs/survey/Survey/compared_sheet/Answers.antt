use Rattle.std.proofs.Common.{◌∙◌, ◌++◌, List, ap}
use Rattle.std.specs.Prelude.{flat_map}
use Rattle.a429_survey.specs.Expected.{compared_rows}
use Rattle.a429_survey.specs.Kept.{LineKept, missing_in}
use Rattle.a429_survey.specs.Past.{words_in}
use Rattle.a429_survey.specs.declared.rows.RowKind.TheVariants as kind
use Rattle.a429_survey.proofs.MissingRows.{compared_are}
use Rattle.a429_survey.proofs.SheetRows.{asked_are}
use Rattle.a429_survey.proofs.survey.Survey.compared_sheet.Goals as goal

pub returns-clause-rows : goal.returns-clause-rows
returns-clause-rows c =
    let ws = words_in c.self.inside.past in
    let e = c.args.expected.now in
    let rate = c.args.rate in
    let rows = c.in_ok-rows.rows in
    let named = c.in_ok-rows.ensures ∙ asked_are (kind.Compared c.args.expected) rate ws c.deref.result.now (c.deref.ensures.value ∙ c.self.invariant.kept) in
    c.add_missing.ensures ∙ ap (λ (ls : List LineKept). rows ++ flat_map (missing_in ls) e) c.deref-2.ensures.value
    ∙ compared_are rate ws c.self.inside.lines.items e rows c.self.invariant.kept named
    ∙ ap (compared_rows e rate) c.self.view_is
