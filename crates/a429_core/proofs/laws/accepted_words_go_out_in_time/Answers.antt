use Rattle.a429_core.proofs.GoingOut.{from_opening, in_any, in_time, in_time_or_first, latency}
use Rattle.a429_core.proofs.laws.accepted_words_go_out_in_time.Goals as goal

pub returns-clause-settled : goal.returns-clause-settled
returns-clause-settled c C E h a i k source at q H A old after low keeps may passes again =
    in_time c.spacing_is_kept.ensures C E.opening E.group E.table E.events H (λ j. c.plans_in_force_are_spaced.ensures E.opening E.group E.table E.events j H.opens H.own) h a i k source q at low old after A keeps may passes again

pub returns-clause-latency : goal.returns-clause-latency
returns-clause-latency c C E h i k source at q clock H A low keeps may passes again T =
    latency c.spacing_is_kept.ensures C E.opening E.group E.table E.events H (λ j. c.plans_in_force_are_spaced.ensures E.opening E.group E.table E.events j H.opens H.own) h i k source q at clock low A keeps may passes again T

pub returns-clause-opening : goal.returns-clause-opening
returns-clause-opening c C E i k source at q H A keeps may again =
    from_opening c.spacing_is_kept.ensures C E.opening E.group E.table E.events H (λ j. c.plans_in_force_are_spaced.ensures E.opening E.group E.table E.events j H.opens H.own) i k source q at A keeps may again

pub returns-clause-first : goal.returns-clause-first
returns-clause-first c C E i k source at q H A keeps may again =
    in_time_or_first c.spacing_is_kept.ensures C E.opening E.group E.table E.events H (λ j. c.plans_in_force_are_spaced.ensures E.opening E.group E.table E.events j H.opens H.own) i k source q at A keeps may again

pub returns-clause-anyway : goal.returns-clause-anyway
returns-clause-anyway c C E i k source at q n H A keeps may long more again =
    in_any c.spacing_is_kept.ensures C E.opening E.group E.table E.events H (λ j. c.plans_in_force_are_spaced.ensures E.opening E.group E.table E.events j H.opens H.own) i k source q n at A keeps may long more again
