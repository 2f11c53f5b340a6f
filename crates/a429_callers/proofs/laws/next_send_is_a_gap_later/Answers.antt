use Rattle.a429_core.specs.Spaced.{AreSpaced}
use Rattle.a429_callers.proofs.NextSends.{next_send}
use Rattle.a429_callers.proofs.laws.next_send_is_a_gap_later.Goals as goal

pub returns : goal.returns
returns c C E j i k source x y slot H K Y last free high =
    let law : AreSpaced = record {
      apart = c.words_are_spaced.ensures.apart;
      only = c.words_are_spaced.ensures.only;
      first = c.spacing_empties_first_cells_only.ensures.first;
      opening = c.spacing_empties_first_cells_only.ensures.opening;
    } in
    next_send law C E.opening E.group E.table E.events H (λ n. c.plans_in_force_are_spaced.ensures E.opening E.group E.table E.events n H.opens H.own) j i k source x y slot K Y last free high
