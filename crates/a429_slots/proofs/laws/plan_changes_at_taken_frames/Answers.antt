use Rattle.a429_slots.proofs.Published.{current-not_taken}
use Rattle.a429_slots.proofs.laws.plan_changes_at_taken_frames.Goals as goal

pub returns : goal.returns
returns c = current-not_taken
