-- Rows, with an index of the names of their receivers, sources and groups (vocabulary of contracts).
use Rattle.std.specs.Prelude.{◌≡◌, ◌+◌, ℕ, if◌then◌else◌, List, Option, None, Some, map, min, nat_le, slice_get, slice_index_or, slice_set, string_bytes, ◌++◌, ◌∷◌, [], length}
use Rattle.std.specs.List.{AllZip, count_by, position_from}
use Rattle.std.specs.Option.{option_map}
use Rattle.std.specs.Str.{bytes_eq}
use Rattle.indexmap.specs.IndexMap.{keys, values}
use Rattle.a429_import.specs.declared.firsts.Part.{Part}
use Rattle.a429_import.specs.declared.firsts.Part.TheVariants.{Receivers, Sources, Groups}
use Rattle.a429_import.specs.declared.indexed_rows.IndexedRows.{IndexedRows}
use Rattle.a429_import.specs.declared.indexed_rows.NamedRows.{NamedRows}
use Rattle.a429_import.specs.declared.rows.ImportRow.{ImportRow}
use Rattle.a429_import.specs.ImportTables.{firsts, name_in, same_name}

-- ---- names

abbrev pub names_of : NamedRows → List (List ℕ)
names_of named = map string_bytes (keys named.firsts)

-- the numbers of their first rows
abbrev pub numbers_of : NamedRows → List ℕ
numbers_of named = values named.firsts

abbrev pub place_of : NamedRows → List ℕ → Option ℕ
place_of named name = position_from (bytes_eq name) 0 (names_of named)

-- the number of the first of these rows with the name; rows are counted from a given number
abbrev pub first_from : Part → List ℕ → ℕ → List ImportRow → Option ℕ
first_from part name number rows = position_from (λ row. bytes_eq name (name_in part row)) number rows

-- the names are those of the first rows, each with the number of that row
pub record IndexesFirsts (part : Part) (named : NamedRows) (rows : List ImportRow) : Type 0 where
  pub names : names_of named ≡ map (name_in part) (firsts part rows)
  pub apart : (place : ℕ) (name : List ℕ) → slice_get (names_of named) place ≡ Some name → place_of named name ≡ Some place
  pub listed : AllZip (λ number row. slice_get rows number ≡ Some row) (numbers_of named) (firsts part rows)
  pub first : (name : List ℕ) → option_map (λ place. slice_index_or (numbers_of named) place 0) (place_of named name) ≡ first_from part name 0 rows

-- the names after one more row
abbrev pub IndexesMore : NamedRows → NamedRows → List ℕ → ℕ → Type 0
IndexesMore old new name number =
    (part : Part) (rows : List ImportRow) (row : ImportRow) → name ≡ name_in part row → number ≡ length rows → IndexesFirsts part old rows
    → IndexesFirsts part new (rows ++ row ∷ [])

-- ---- rows

-- the number of outputs of a group, up to one above the limit
abbrev pub outputs_of : List ImportRow → ImportRow → ℕ
outputs_of rows group = min 129 (count_by (same_name Groups group) rows)

-- the names are those of the rows, and so are the numbers of outputs
pub record IsIndexed (known : IndexedRows) : Type 0 where
  pub receivers : IndexesFirsts Receivers known.receivers known.rows.items
  pub sources : IndexesFirsts Sources known.sources known.rows.items
  pub groups : IndexesFirsts Groups known.groups known.rows.items
  pub outputs : known.outputs.items ≡ map (outputs_of known.rows.items) (firsts Groups known.rows.items)

-- the receivers, the sources or the groups
abbrev pub named_of : Part → IndexedRows → NamedRows
named_of Receivers known = known.receivers
named_of Sources known = known.sources
named_of Groups known = known.groups

-- one more output, up to one above the limit
abbrev pub one_output : ℕ → ℕ
one_output count = if nat_le count 128 then count + 1 else count

-- one more output of the group at a place, or of a new group
abbrev pub with_output : List ℕ → Option ℕ → List ℕ
with_output counts None = counts ++ 1 ∷ []
with_output counts (Some place) = slice_set counts place (one_output (slice_index_or counts place 0))
