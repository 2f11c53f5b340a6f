use Rattle.a429_line.proofs.Cuts.{only_cut}
use Rattle.a429_line.proofs.laws.runs_are_the_only_cut.Goals as goal

pub returns : goal.returns
returns c = only_cut
