use Rattle.a429_judge.proofs.RightBoxes.{right_box_has_none}
use Rattle.a429_judge.proofs.laws.right_box_has_no_finding.Goals as goal

pub returns : goal.returns
returns c = λ duties d r plan b. right_box_has_none duties d r plan b
