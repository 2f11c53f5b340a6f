use Rattle.a429_import.proofs.NamesApart.{names_apart}
use Rattle.a429_import.proofs.laws.names_are_apart.Goals as goal

pub returns : goal.returns
returns c = names_apart
