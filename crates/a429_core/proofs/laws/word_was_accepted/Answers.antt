use Rattle.a429_core.proofs.Carrying.{carries_latest}
use Rattle.a429_core.proofs.laws.word_was_accepted.Goals as goal

pub returns : goal.returns
returns c = carries_latest
