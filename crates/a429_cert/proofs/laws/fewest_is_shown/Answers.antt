use Rattle.a429_cert.specs.Lines.{lines_of}
use Rattle.a429_cert.specs.Faults.{faults, first_no}
use Rattle.a429_cert.proofs.Shown.{none_refused}
use Rattle.a429_cert.proofs.CheckedPlans.{fewest_states}
use Rattle.a429_cert.proofs.OnGrid.{all_nest, on_grid}
use Rattle.a429_cert.proofs.RowPlans.{shows_fewest}
use Rattle.a429_cert.proofs.laws.fewest_is_shown.Goals as goal

pub returns : goal.returns
returns c = λ e t text sound due shown.
    let on = on_grid e t sound due in
    shows_fewest e t text c.fewest_by_demand.ensures.carried sound due (fewest_states t text (all_nest t.groups.items on) (none_refused (first_no 1 (faults t (lines_of text))) shown))
