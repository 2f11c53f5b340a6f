use Rattle.std.proofs.Common.{refl, arith}
use Rattle.a429_core.proofs.ManyChanges.{comes_often, latency_often, out_often, sends_often}
use Rattle.a429_core.specs.Latency.{next_slot_on}
use Rattle.a429_core.proofs.laws.words_go_on_across_changes.Goals as goal

pub returns-clause-cells : goal.returns-clause-cells
returns-clause-cells c E i k source most n there own P short =
    (comes_often E.opening E.group E.table E.events (λ m. c.plans_in_force_are_spaced.ensures E.opening E.group E.table E.events m there own) i k source most n (next_slot_on E i P.first.at.bus) (next_slot_on E i P.first.at.bus) P refl (omega arith) (omega (arith, short))).cell

pub returns-clause-words : goal.returns-clause-words
returns-clause-words c C E j k source most x slot w q span H P free A same short wide =
    sends_often c.spacing_is_kept.ensures C E.opening E.group E.table E.events H (λ m. c.plans_in_force_are_spaced.ensures E.opening E.group E.table E.events m H.opens H.own) j k source most x slot w q span P free A same short wide

pub returns-clause-accepted : goal.returns-clause-accepted
returns-clause-accepted c C E i k source most q n H A P may short wide =
    out_often c.spacing_is_kept.ensures C E.opening E.group E.table E.events H (λ m. c.plans_in_force_are_spaced.ensures E.opening E.group E.table E.events m H.opens H.own) i k source most q n A P may short wide

pub returns-clause-latency : goal.returns-clause-latency
returns-clause-latency c C E i k source most q n bus slot clock H A P may short wide before near T =
    latency_often c.spacing_is_kept.ensures C E.opening E.group E.table E.events H (λ m. c.plans_in_force_are_spaced.ensures E.opening E.group E.table E.events m H.opens H.own) i k source most q n bus slot clock A P may short wide before near T
