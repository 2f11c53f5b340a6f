use Rattle.a429_core.proofs.AcrossChanges.{latency_across, out_across, recurs_across, sends_across}
use Rattle.a429_core.proofs.laws.words_go_on_across_a_change.Goals as goal

pub returns-clause-cells : goal.returns-clause-cells
returns-clause-cells c E j i k source old new x slot there own K J same passes =
    recurs_across E.opening E.group E.table E.events (λ n. c.plans_in_force_are_spaced.ensures E.opening E.group E.table E.events n there own) j i k source old new x slot K J same passes

pub returns-clause-words : goal.returns-clause-words
returns-clause-words c C E j i k source old new x slot w q span H K free A same both wide passes =
    sends_across c.spacing_is_kept.ensures C E.opening E.group E.table E.events H (λ n. c.plans_in_force_are_spaced.ensures E.opening E.group E.table E.events n H.opens H.own) j i k source old new x slot w q span K free A same both wide passes

pub returns-clause-accepted : goal.returns-clause-accepted
returns-clause-accepted c C E h i j k source old new q n H A settled K may passes both wide enough =
    out_across c.spacing_is_kept.ensures C E.opening E.group E.table E.events H (λ m. c.plans_in_force_are_spaced.ensures E.opening E.group E.table E.events m H.opens H.own) h i j k source old new q n A settled K may passes both wide enough

pub returns-clause-latency : goal.returns-clause-latency
returns-clause-latency c C E h i j k source old new q n clock H A settled K may passes both wide enough T =
    latency_across c.spacing_is_kept.ensures C E.opening E.group E.table E.events H (λ m. c.plans_in_force_are_spaced.ensures E.opening E.group E.table E.events m H.opens H.own) h i j k source old new q n clock A settled K may passes both wide enough T
