use Rattle.std.proofs.Common.{sym, subst, List, []}
use Rattle.a429_survey.specs.Kept.{IsKept, LineKept}
use Rattle.a429_survey.proofs.Kept.{kept_none}
use Rattle.a429_survey.proofs.survey.Survey.new.Goals as goal

pub invariant_of-result : goal.invariant_of-result
invariant_of-result c = subst (λ (lines : List LineKept). IsKept [] lines 0) (sym c.new.ensures.items) kept_none
