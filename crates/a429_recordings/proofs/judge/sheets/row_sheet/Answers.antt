use Rattle.std.proofs.Common.{◌≡◌, ◌∙◌, ◌++◌, List, ap}
use Rattle.a429_text.specs.Fields.{Field}
use Rattle.a429_text.specs.Sheets.{sheet_text}
use Rattle.a429_console.specs.WholeReplies.{finding_status}
use Rattle.a429_recordings.specs.JudgeReplies.{given_by}
use Rattle.a429_recordings.specs.JudgedPlans.{judge_columns, judged_rows}
use Rattle.a429_recordings.proofs.judge.sheets.row_sheet.Goals as goal

pub returns : goal.returns
returns c =
    let j = c.args.judging.now in
    let judged = judged_rows j.proposal.now (given_by j) j.judge.now.noted in
    let rows : c.add_groups.new.rows ≡ judged = c.in_ok-found.ensures.rows ∙ ap (λ (rs : List (List Field)). rs ++ judged) c.new-rows.ensures in
    (c.in_ok-bytes.ensures ∙ ap (sheet_text c.args.form judge_columns) rows, c.finding_status.ensures ∙ ap finding_status c.in_ok-found.ensures.found)
