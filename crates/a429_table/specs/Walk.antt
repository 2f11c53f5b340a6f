-- The places of a table in walk order, each with its value (profile: docs/FORMATS.md, Equipment table).
use Rattle.std.specs.Prelude.{codes, ℕ, List, [], ◌∷◌, ◌++◌, map, take, Option, Some, None, slice_get}
use Rattle.std.specs.List.{enumerate_from, flat_map}
use Rattle.toml.specs.Data.{Data}
use Rattle.a429_table.specs.declared.fault.TablePlace.{TablePlace}
use Rattle.a429_table.specs.declared.fault.TablePlace.TheVariants.{Root, Receiver, Source, Group, Output}
use Rattle.a429_table.specs.declared.walk.Rows.{Rows}
use Rattle.a429_table.specs.declared.walk.Rows.TheVariants as rows
use Rattle.a429_table.specs.Tree.{rows_at}

-- a place, and its value
abbrev pub Stop : Type 0
Stop = TablePlace × Data

-- the place of a row of an array of tables
abbrev pub row_place : Rows → ℕ → TablePlace
row_place rows.Receivers i = Receiver i
row_place rows.Sources i = Source i
row_place rows.Groups i = Group i
row_place (rows.Outputs g) i = Output g i

-- the rows of an array with their places, numbered from n
abbrev pub numbered_from : Rows → ℕ → List Data → List Stop
numbered_from array n ds = map (λ e. (row_place array e.0, e.1)) (enumerate_from n ds)

-- numbered from 0
abbrev pub numbered : Rows → List Data → List Stop
numbered array ds = numbered_from array 0 ds

-- a group, and then its outputs
abbrev pub group_stops : ℕ × Data → List Stop
group_stops e = (Group e.0, e.1) ∷ numbered (rows.Outputs e.0) (rows_at (codes "output") e.1)

-- each group followed by its outputs
abbrev pub stops_of_groups : List Data → List Stop
stops_of_groups groups = flat_map group_stops (enumerate_from 0 groups)

-- below the root: the receivers, the sources, and each group followed by its outputs
abbrev pub below : Data → List Stop
below root =
    numbered rows.Receivers (rows_at (codes "receiver") root) ++ numbered rows.Sources (rows_at (codes "source") root)
    ++ stops_of_groups (rows_at (codes "group") root)

-- the root, and what is below it
unfoldable pub walk : Data → List Stop
walk root = (Root, root) ∷ below root

-- the outputs of a group
abbrev pub outputs_of : Option Data → List Data
outputs_of None = []
outputs_of (Some group) = rows_at (codes "output") group

-- the earlier tables of the same array
unfoldable pub earlier : Data → TablePlace → List Data
earlier root Root = []
earlier root (Receiver i) = take i (rows_at (codes "receiver") root)
earlier root (Source i) = take i (rows_at (codes "source") root)
earlier root (Group i) = take i (rows_at (codes "group") root)
earlier root (Output i j) = take j (outputs_of (slice_get (rows_at (codes "group") root) i))
