use Rattle.std.proofs.Common.{◌≡◌, ℕ, List, map, drop}
use Rattle.std.specs.List.{position_from}
use Rattle.std.specs.Option.{option_or}
use Rattle.std.specs.Str.{bytes_eq}
use Rattle.indexmap.specs.IndexMap.{get_by_text}
use Rattle.toml.specs.View.{view}
use Rattle.a429_table.specs.Names.{name_of, number_named}
use Rattle.a429_table.proofs.table_index.number_names.Given as goal

abbrev pub invariant-loop-row : goal.invariant-loop-row
invariant-loop-row l = (name : List ℕ) → option_or (get_by_text l.numbers name) (position_from (λ d. bytes_eq name (name_of d)) l.row (map view (drop l.row l.tables)))
    ≡ number_named name (map view l.tables)
