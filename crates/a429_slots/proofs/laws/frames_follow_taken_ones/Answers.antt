use Rattle.a429_slots.proofs.Taking.{frame_at}
use Rattle.a429_slots.proofs.laws.frames_follow_taken_ones.Goals as goal

pub returns : goal.returns
returns c = frame_at
