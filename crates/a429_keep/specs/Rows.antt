-- The outputs that an earlier plan text lists (profile: docs/FORMATS.md, Plan text).
use Rattle.std.specs.Prelude.{ℕ, ◌==◌, ◌&&◌, Bool, List}
use Rattle.std.specs.Str.{bytes_eq}
use Rattle.a429_cert.specs.Faults.{shares}
use Rattle.a429_cert.specs.Spelling.{Listing}
use Rattle.a429_cert.specs.Views.{listing}
use Rattle.a429_keep.specs.declared.rows.Row.{Row}

-- an output of the group of this name
pub record Listed : Type 0 where
  pub group : List ℕ
  pub said : Listing

-- as the code holds it
abbrev pub row_view : Row → Listed
row_view r = record { group = r.group.now; said = listing r.said }

-- two outputs of one group have a cell in common
abbrev pub shares_cells : Listed → Listed → Bool
shares_cells a b = shares a.said b.said && bytes_eq a.group b.group

-- the output of a group, by its source and its period
abbrev pub is_row : List ℕ → List ℕ → ℕ → Listed → Bool
is_row group source period r = r.said.period == period && (bytes_eq r.said.source source && bytes_eq r.group group)
