use Rattle.a429_documents.proofs.Wider.{next_period}
use Rattle.a429_documents.proofs.laws.wider_intervals_are_next.Goals as goal

pub returns : goal.returns
returns c = next_period
