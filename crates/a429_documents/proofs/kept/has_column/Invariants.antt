use Rattle.std.proofs.Common.{◌≡◌, drop, map}
use Rattle.std.specs.List.{list_any}
use Rattle.std.specs.Str.{bytes_eq}
use Rattle.a429_documents.proofs.kept.has_column.Given as goal

abbrev pub invariant-loop-name : goal.invariant-loop-name
invariant-loop-name l = list_any (bytes_eq l.column) (map (λ name. name.now) (drop l.name-index l.columns)) ≡ list_any (bytes_eq l.column) (map (λ name. name.now) l.columns)
