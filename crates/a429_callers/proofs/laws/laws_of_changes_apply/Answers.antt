use Rattle.a429_callers.proofs.ManyChangesExample.{meets_all}
use Rattle.a429_callers.proofs.laws.laws_of_changes_apply.Goals as goal

pub returns : goal.returns
returns c = meets_all
