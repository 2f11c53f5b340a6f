use Rattle.a429_core.proofs.Rounds.{comes_round, one_plan_keeps, recurs}
use Rattle.a429_core.proofs.GoingOut.{full}
use Rattle.a429_core.proofs.laws.outputs_come_round.Goals as goal

pub returns-clause-round : goal.returns-clause-round
returns-clause-round c E i k source at there own after few keeps passes =
    (comes_round E.opening E.group E.table E.events (λ j. c.plans_in_force_are_spaced.ensures E.opening E.group E.table E.events j there own) i k source at after few keeps passes).cell

pub returns-clause-exact : goal.returns-clause-exact
returns-clause-exact c E j k source at x slot there own after few keeps cell same passes =
    recurs E.opening E.group E.table E.events (λ i. c.plans_in_force_are_spaced.ensures E.opening E.group E.table E.events i there own) j k source at x slot after few keeps cell same passes

pub returns-clause-full : goal.returns-clause-full
returns-clause-full c C E j k source at x now s t H after keeps J own K same free =
    full c.spacing_is_kept.ensures C E.opening E.group E.table E.events H (λ i. c.plans_in_force_are_spaced.ensures E.opening E.group E.table E.events i H.opens H.own) j k source at x now s t after keeps J own K same free

pub returns-clause-plan : goal.returns-clause-plan
returns-clause-plan c E = one_plan_keeps E.opening E.group E.table E.events
