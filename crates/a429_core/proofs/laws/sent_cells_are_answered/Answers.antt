use Rattle.std.proofs.Common.{◌∙◌, sym}
use Rattle.a429_slots.specs.Events.{Cell}
use Rattle.a429_core.proofs.SentCells.{sent_answer, unsent_answer}
use Rattle.a429_core.proofs.laws.sent_cells_are_answered.Goals as goal

pub returns-clause-sent : goal.returns-clause-sent
returns-clause-sent c C o E v g s S sent = sym (c.calls_are_answered.ensures.answer C o E (Cell g) v tt S) ∙ sent_answer v g s sent

pub returns-clause-none : goal.returns-clause-none
returns-clause-none c C o E v g bus slot word S none is = unsent_answer v g bus slot word none (c.calls_are_answered.ensures.answer C o E (Cell g) v tt S ∙ is)
