use Rattle.a429_callers.proofs.ChangesExample.{meets}
use Rattle.a429_callers.proofs.laws.laws_of_a_change_apply.Goals as goal

pub returns : goal.returns
returns c = meets
