use Rattle.a429_text.specs.Sheets.{sheet_text}
use Rattle.std.proofs.Common.{map, ◌≡◌, ◌∙◌, ◌-◌, ◌^◌, ◌≤◌, ◌++◌, ◌∷◌, [], ℕ, List, ap, length, refl, subst, sym}
use Rattle.std.proofs.lemmas.Result.{IfOk-weaker}
use Rattle.a429_recordings.specs.Summary.{sends_of, summary_rows, summary_text}
use Rattle.a429_recordings.specs.SummaryRuns.{HasFigures}
use Rattle.a429_recordings.specs.declared.simulate.machine.Happening.{Happening}
use Rattle.a429_recordings.proofs.FigureSteps.{figures_next}
use Rattle.a429_recordings.proofs.SummedUp.{rows_are, sends_counted, slots_few}
use Rattle.a429_recordings.proofs.simulate.summarize.Goals as goal

pub loop-happening-preserved : goal.loop-happening-preserved
loop-happening-preserved g c = record {
  noted = λ words last B.
      let q = c.args.writer.now.proposal in
      let h = c.in-Some.happening in
      let (told, H, F) = c.loop-happening.invariant.noted words last B in
      let next = c.in-Some.ensures.told words last told H in
      (told ++ h ∷ [], next, subst (HasFigures q (told ++ h ∷ [])) (sym c.note.ensures) (figures_next q told h c.loop-happening.summary.figures.items next.steps next.told_is F));
  playable = c.in-Some.ensures.playable;
}

pub returns : goal.returns
returns g c =
    IfOk-weaker c.render.result _ _ (λ text is words last B.
    let q = c.args.writer.now.proposal in
    let form = c.args.form in
    let (told, H, F) = c.loop-happening.invariant.noted words last B in
    let (M, timeline, all) = c.in_default.ensures.told words last told H in
    let slots = slots_few q last c.args.player.now.timeline.tracks.items B.timeline.tracks c.requires.sound in
    let few : (g i : ℕ) → length (sends_of g i told) ≤ 2 ^ 64 - 1 =
    λ g i. subst (λ (l : List Happening). length (sends_of g i l) ≤ 2 ^ 64 - 1) (sym all) (sends_counted q words last M timeline B.run.planned slots g i) in
    let rows : c.summary_sheet.result.rows ≡ summary_rows q told = c.summary_sheet.ensures.rows ∙ rows_are q B.run.sound B.run.planned told c.loop-happening.summary F few in
    let text_is : sheet_text form (map (λ name. name.now) c.summary_sheet.result.columns.now) c.summary_sheet.result.rows ≡ summary_text q told form = rw (c.summary_sheet.ensures.columns, rows) refl in
    (M, timeline, is ∙ (text_is ∙ ap (λ (l : List Happening). summary_text q l form) all), refl))
    c.render.ensures
