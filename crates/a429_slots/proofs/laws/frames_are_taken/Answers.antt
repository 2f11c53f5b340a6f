use Rattle.a429_slots.proofs.Taking.{are_taken, no_other}
use Rattle.a429_slots.proofs.laws.frames_are_taken.Goals as goal

pub returns-clause-taken : goal.returns-clause-taken
returns-clause-taken c = are_taken

pub returns-clause-only : goal.returns-clause-only
returns-clause-only c = no_other
