use Rattle.a429_callers.proofs.JudgedExample.{meets}
use Rattle.a429_callers.proofs.boxes.laws_of_judging_apply.Goals as goal

pub returns : goal.returns
returns c = meets
