-- Maps from names to the numbers of tables (vocabulary of contracts).
use Rattle.std.specs.Prelude.{◌≡◌, ℕ, List, String, Some, None, if◌then◌else◌}
use Rattle.std.specs.Option.{option_or}
use Rattle.std.specs.Str.{bytes_eq}
use Rattle.std.specs.declared.alloc.Global.{Global}
use Rattle.indexmap.specs.IndexMap.{IndexMap, get_by_text}
use Rattle.toml.specs.Data.{Data}
use Rattle.a429_table.specs.Names.{number_named}

-- each name has the number of the first table with it, and no other has one
abbrev pub NumbersNames : {S : Type 0} → IndexMap (String Global) ℕ S → List Data → Type 0
NumbersNames m ds = (name : List ℕ) → get_by_text m name ≡ number_named name ds

-- the name has this number, unless it had one, and every other name is as it was
abbrev pub NumbersOneMore : {S : Type 0} → IndexMap (String Global) ℕ S → IndexMap (String Global) ℕ S → List ℕ → ℕ → Type 0
NumbersOneMore before after name number =
    (q : List ℕ) → get_by_text after q ≡ option_or (get_by_text before q) (if bytes_eq q name then Some number else None)
