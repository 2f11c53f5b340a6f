use Rattle.a429_core.proofs.InTurn.{frame_is_answered}
use Rattle.a429_core.proofs.laws.taken_frames_are_answered.Goals as goal

pub returns : goal.returns
returns c = frame_is_answered
