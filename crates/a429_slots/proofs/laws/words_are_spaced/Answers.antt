use Rattle.a429_slots.proofs.Answered.{words_apart, sent_within}
use Rattle.a429_slots.proofs.laws.words_are_spaced.Goals as goal

pub returns-clause-apart : goal.returns-clause-apart
returns-clause-apart c = words_apart

pub returns-clause-only : goal.returns-clause-only
returns-clause-only c = sent_within
