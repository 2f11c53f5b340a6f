-- Names, and the numbers of the tables that they name (profile: equipment table).
use Rattle.std.specs.Prelude.{codes, ℕ, List, Option, Bool, false, nat_lt}
use Rattle.std.specs.Option.{option_map_or}
use Rattle.std.specs.List.{position_from}
use Rattle.std.specs.Str.{bytes_eq}
use Rattle.toml.specs.Data.{Data}
use Rattle.a429_table.specs.Tree.{text_at}

abbrev pub name_of : Data → List ℕ
name_of d = text_at (codes "name") d

-- the number of the first table with the name
unfoldable pub number_named : List ℕ → List Data → Option ℕ
number_named name ds = position_from (λ d. bytes_eq name (name_of d)) 0 ds

-- there is a number, and it is below the row
abbrev pub is_below : ℕ → Option ℕ → Bool
is_below row number = option_map_or (λ n. nat_lt n row) number false
