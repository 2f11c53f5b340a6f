use Rattle.a429_core.proofs.SpacedWords.{apart, emptied}
use Rattle.a429_core.proofs.laws.sent_words_are_spaced.Goals as goal

pub returns-clause-apart : goal.returns-clause-apart
returns-clause-apart c C E = apart c.spacing_is_kept.ensures C E.opening E.group E.table E.events

pub returns-clause-only : goal.returns-clause-only
returns-clause-only c C E = emptied c.spacing_is_kept.ensures C E.opening E.group E.table E.events
