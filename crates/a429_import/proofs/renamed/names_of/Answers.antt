use Rattle.a429_import.proofs.ChosenNames.{same_texts}
use Rattle.a429_import.proofs.renamed.names_of.Goals as goal

pub returns : goal.returns
returns c = same_texts _ _ _ _ _ _ _ _ c.name_for.ensures c.name_for-2.ensures c.name_for-3.ensures c.as_str.ensures
