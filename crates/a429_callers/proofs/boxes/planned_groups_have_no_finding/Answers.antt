use Rattle.a429_core.specs.Spaced.{AreSpaced}
use Rattle.a429_core.proofs.Rounds.{AreSpacedTables}
use Rattle.a429_callers.proofs.JudgedGroups.{group_has_no_finding, group_sends_none_foreign}
use Rattle.a429_callers.proofs.boxes.planned_groups_have_no_finding.Goals as goal

pub returns-clause-foreign : goal.returns-clause-foreign
returns-clause-foreign c = group_sends_none_foreign

pub returns-clause-outputs : goal.returns-clause-outputs
returns-clause-outputs c C j t r number row x K R listed there apart =
    let law : AreSpaced = record {
      apart = c.words_are_spaced.ensures.apart;
      only = c.words_are_spaced.ensures.only;
      first = c.spacing_empties_first_cells_only.ensures.first;
      opening = c.spacing_empties_first_cells_only.ensures.opening;
    } in
    let E = j.history in
    let spaced : AreSpacedTables E.opening E.group E.table E.events = λ n. c.plans_in_force_are_spaced.ensures E.opening E.group E.table E.events n K.planned.opens K.planned.own in
    group_has_no_finding law C j t r K spaced R number row x listed there apart c.recorded_box_has_no_finding.ensures c.grid_periods_are_planned.ensures
