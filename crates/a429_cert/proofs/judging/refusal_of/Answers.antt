use Rattle.std.proofs.Common.{ap, sym}
use Rattle.a429_cert.specs.declared.due.DueTable.{DueTable}
use Rattle.a429_cert.specs.Verdicts.{verdict_of}
use Rattle.a429_cert.proofs.CheckedPlans.{fewest_states}
use Rattle.a429_cert.proofs.OnGrid.{all_modest, all_nest, due_few, on_grid}
use Rattle.a429_cert.proofs.RowPlans.{shows_fewest}
use Rattle.a429_cert.proofs.judging.refusal_of.Goals as goal

pub check_lines-requires-clause-modest : goal.check_lines-requires-clause-modest
check_lines-requires-clause-modest c = all_modest c.args.equipment.now c.in_ok-due.due c.rows_are_sound.ensures c.in_ok-due.ensures.due

pub check_lines-requires-clause-fits : goal.check_lines-requires-clause-fits
check_lines-requires-clause-fits c = due_few c.args.equipment.now c.in_ok-due.due c.rows_are_sound.ensures c.in_ok-due.ensures.due

pub returns-in-Ok-clause-answer : goal.returns-in-Ok-clause-answer
returns-in-Ok-clause-answer c = (c.in_ok-due.due, c.in_ok-due.ensures.due, ap verdict_of (sym c.in-Ok.ensures))

pub returns-in-Ok-clause-fewest : goal.returns-in-Ok-clause-fewest
returns-in-Ok-clause-fewest c = λ _.
    let e = c.args.equipment.now in
    let t : DueTable = c.in_ok-due.due in
    let on = on_grid e t c.rows_are_sound.ensures c.in_ok-due.ensures.due in
    shows_fewest e t c.args.text.now c.fewest_by_demand.ensures.carried c.rows_are_sound.ensures c.in_ok-due.ensures.due (fewest_states t c.args.text.now (all_nest t.groups.items on) c.in-Ok.ensures)

pub returns-in-Err-Refused-clause-answer : goal.returns-in-Err-Refused-clause-answer
returns-in-Err-Refused-clause-answer c =
    let refused = rw c.in-Err-Refused.field-0-is at c.in-Err-Refused.ensures in
    (c.in_ok-due.due, c.in_ok-due.ensures.due, ap verdict_of (sym refused))
