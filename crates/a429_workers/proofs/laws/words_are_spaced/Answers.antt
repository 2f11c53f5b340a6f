use Rattle.a429_workers.proofs.SentWords.{words_apart}
use Rattle.a429_workers.proofs.laws.words_are_spaced.Goals as goal

pub returns : goal.returns
returns c = words_apart
