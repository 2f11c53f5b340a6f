use Rattle.a429_pack.proofs.Entries.{up_to_greatest}
use Rattle.a429_pack.proofs.laws.none_is_above_the_greatest.Goals as goal

pub returns : goal.returns
returns c = up_to_greatest
