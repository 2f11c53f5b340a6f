use Rattle.a429_core.proofs.InTurn.{answers_cut}
use Rattle.a429_core.proofs.laws.cut_histories_answer_alike.Goals as goal

pub returns : goal.returns
returns c = answers_cut
