use Rattle.a429_core.specs.Spaced.{AreSpaced}
use Rattle.a429_callers.proofs.AnsweredCells.{plan_stays}
use Rattle.a429_callers.proofs.SlotBoxes.{sends_as_right_box}
use Rattle.a429_callers.proofs.boxes.groups_send_as_right_boxes.Goals as goal

pub returns-clause-unpublished : goal.returns-clause-unpublished
returns-clause-unpublished c = plan_stays c.plan_was_published.ensures.own

pub returns-clause-sends : goal.returns-clause-sends
returns-clause-sends c C E number x H kept there =
    let law : AreSpaced = record {
      apart = c.words_are_spaced.ensures.apart;
      only = c.words_are_spaced.ensures.only;
      first = c.spacing_empties_first_cells_only.ensures.first;
      opening = c.spacing_empties_first_cells_only.ensures.opening;
    } in
    sends_as_right_box law C E.opening E.group E.table E.events H (λ n. c.plans_in_force_are_spaced.ensures E.opening E.group E.table E.events n H.opens H.own) kept number x there
