use Rattle.a429_logs.proofs.NeverFall.{series_fall}
use Rattle.a429_logs.proofs.laws.times_never_fall.Goals as goal

pub returns : goal.returns
returns c = λ reading texts. series_fall reading texts
