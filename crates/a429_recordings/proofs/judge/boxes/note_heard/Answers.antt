use Rattle.std.proofs.Common.{List, subst, sym}
use Rattle.a429_arguments.specs.Texts.{texts_of}
use Rattle.a429_judge.specs.Recordings.{AreOfGroups}
use Rattle.a429_judge.specs.declared.duties.Duty.{Duty}
use Rattle.a429_recordings.proofs.NotedBoxes.{of_groups}
use Rattle.a429_recordings.proofs.judge.boxes.note_heard.Goals as goal

pub new-requires : goal.new-requires
new-requires g c =
    subst (λ (ds : List (List Duty)). AreOfGroups ds) (sym c.in_ok-duties.ensures) (of_groups c.args.proposal.now (texts_of c.args.tolerances.now))
