use Rattle.std.proofs.Common.{refl}
use Rattle.std.proofs.lemmas.Str.Ascii.{trim_ascii_is}
use Rattle.a429_documents.specs.KeptColumns.{trimmed}
use Rattle.a429_documents.proofs.kept.trimmed.Goals as goal

pub returns : goal.returns
unfolding trimmed
returns c = trim_ascii_is _ _ _ refl c.trim_ascii.ensures.value
