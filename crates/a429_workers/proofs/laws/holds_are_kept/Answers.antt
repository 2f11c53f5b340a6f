use Rattle.a429_workers.proofs.SentWords.{holds_kept}
use Rattle.a429_workers.proofs.laws.holds_are_kept.Goals as goal

pub returns : goal.returns
returns c = holds_kept
