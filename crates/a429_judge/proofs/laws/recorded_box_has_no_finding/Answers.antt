use Rattle.a429_judge.specs.Judgements.{accepted_by, sent_by}
use Rattle.a429_judge.specs.Recordings.{span_of}
use Rattle.a429_judge.proofs.RecordedBoxes.{recorded_is_right}
use Rattle.a429_judge.proofs.RightBoxes.{right_box_has_none}
use Rattle.a429_judge.proofs.laws.recorded_box_has_no_finding.Goals as goal

pub returns : goal.returns
returns c = λ duties d r plan b. right_box_has_none duties d r plan (recorded_is_right d.facts (span_of d.group r) (accepted_by d r) (sent_by d r) plan b)
