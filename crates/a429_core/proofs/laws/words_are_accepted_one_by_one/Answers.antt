use Rattle.a429_core.proofs.Accepting.{one_by_one}
use Rattle.a429_core.proofs.laws.words_are_accepted_one_by_one.Goals as goal

pub returns : goal.returns
returns c = one_by_one
