use Rattle.std.proofs.Common.{◌≡◌, drop, length, map}
use Rattle.a429_documents.specs.KeptColumns.{said_by, with_columns}
use Rattle.a429_documents.proofs.kept.all_columns.Given as goal

abbrev pub invariant-loop-text : goal.invariant-loop-text
invariant-loop-text l =
    with_columns (length l.names) (map (λ name. name.now) l.columns.items) (map said_by (drop l.text-index l.texts))
    ≡ with_columns (length l.names) (map (λ name. name.now) l.names) (map said_by l.texts)
