use Rattle.a429_recordings.proofs.DefaultTolerance.{none_wide}
use Rattle.a429_recordings.proofs.laws.default_tolerance_is_allowed.Goals as goal

pub returns : goal.returns
returns c = none_wide
