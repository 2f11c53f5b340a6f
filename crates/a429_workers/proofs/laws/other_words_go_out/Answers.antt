use Rattle.a429_workers.proofs.SentWords.{goes_out}
use Rattle.a429_workers.proofs.laws.other_words_go_out.Goals as goal

pub returns : goal.returns
returns c = goes_out
