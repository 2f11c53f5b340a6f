use Rattle.a429_callers.proofs.ReadBack.{sheets_back}
use Rattle.a429_callers.proofs.laws.sheets_are_read_back.Goals as goal

pub returns : goal.returns
returns c = sheets_back
