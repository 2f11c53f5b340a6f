use Rattle.std.proofs.Common.{◌≡◌, drop, map}
use Rattle.a429_documents.specs.KeptColumns.{kept_field, said_by}
use Rattle.a429_documents.proofs.kept.kept_cell.Given as goal

abbrev pub invariant-loop-text : goal.invariant-loop-text
invariant-loop-text l = kept_field (map said_by (drop l.text-index l.texts)) l.source l.column ≡ kept_field (map said_by l.texts) l.source l.column
