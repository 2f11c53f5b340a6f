-- Names of a station, and the numbers that they stand for (vocabulary of contracts).
use Rattle.std.specs.Prelude.{ℕ, List, [], Option, map, position, slice_get, unwrap_or}
use Rattle.std.specs.Option.{option_map_or}
use Rattle.std.specs.Str.{bytes_eq}
use Rattle.a429_equipment.specs.TableRecord.{TableRecord}

-- the names of a station's receivers, sources and groups, each in table order
pub record Naming : Type 0 where
  pub receivers : List (List ℕ)
  pub sources : List (List ℕ)
  pub groups : List (List ℕ)

-- the names that a table gives
abbrev pub naming_of : TableRecord → Naming
naming_of t = record { receivers = map (λ r. r.name) t.receivers; sources = map (λ s. s.name) t.sources; groups = map (λ g. g.name) t.groups }

-- the number of the first of these names that is this one
unfoldable pub number_named : List (List ℕ) → List ℕ → Option ℕ
number_named names name = position (λ own. bytes_eq own name) names

-- the name of a number; empty if there is no such name
abbrev pub name_at : List (List ℕ) → ℕ → List ℕ
name_at names number = unwrap_or (slice_get names number) []

-- the name of a group of a table
abbrev pub group_name : TableRecord → ℕ → List ℕ
group_name t g = name_at (naming_of t).groups g

-- the name of the source of output o of group g
abbrev pub output_name : TableRecord → ℕ → ℕ → List ℕ
output_name t g o = option_map_or (λ rows. option_map_or (λ row. name_at (naming_of t).sources row.source) (slice_get rows o) []) (slice_get t.outputs g) []
