use Rattle.a429_documents.proofs.NamesApart.{slot_names_differ}
use Rattle.a429_documents.proofs.laws.slot_names_differ.Goals as goal

pub returns : goal.returns
returns c = slot_names_differ
