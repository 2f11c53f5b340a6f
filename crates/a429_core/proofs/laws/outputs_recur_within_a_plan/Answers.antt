use Rattle.a429_core.proofs.SpacedWords.{recurs, opens}
use Rattle.a429_core.proofs.laws.outputs_recur_within_a_plan.Goals as goal

pub returns-clause-again : goal.returns-clause-again
returns-clause-again c C E = recurs c.spacing_is_kept.ensures C E.opening E.group E.table E.events

pub returns-clause-opening : goal.returns-clause-opening
returns-clause-opening c C E = opens c.spacing_is_kept.ensures C E.opening E.group E.table E.events
