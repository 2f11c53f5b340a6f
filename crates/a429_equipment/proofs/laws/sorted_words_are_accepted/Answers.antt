use Rattle.a429_equipment.proofs.Receiving.{is_accepted}
use Rattle.a429_equipment.proofs.laws.sorted_words_are_accepted.Goals as goal

pub returns : goal.returns
returns c = is_accepted
