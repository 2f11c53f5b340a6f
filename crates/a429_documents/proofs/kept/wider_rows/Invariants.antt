use Rattle.std.proofs.Common.{◌≡◌, ◌++◌, drop, map}
use Rattle.a429_documents.specs.KeptColumns.{said_by, wider_row}
use Rattle.a429_documents.proofs.kept.wider_rows.Given as goal

abbrev pub invariant-loop-row : goal.invariant-loop-row
invariant-loop-row l =
    l.wider ++ map (wider_row (map said_by l.texts) (map (λ name. name.now) l.columns) l.place) (drop l.row-index l.row-items)
    ≡ map (wider_row (map said_by l.texts) (map (λ name. name.now) l.columns) l.place) l.row-items
