use Rattle.std.proofs.Common.{◌≡◌, ◌++◌, drop, map}
use Rattle.std.specs.Option.{option_copied}
use Rattle.a429_text.specs.Sheets.{field_of}
use Rattle.a429_documents.specs.KeptColumns.{field_at, said_by}
use Rattle.a429_documents.proofs.kept.cells_at.Given as goal

abbrev pub invariant-loop-column : goal.invariant-loop-column
invariant-loop-column l =
    map field_of l.cells ++ map (field_at (map said_by l.texts) (option_copied l.source)) (map (λ name. name.now) (drop l.column-index l.columns))
    ≡ map (field_at (map said_by l.texts) (option_copied l.source)) (map (λ name. name.now) l.columns)
