-- The keys of each table, and the shape of each value (profile: equipment table).
use Rattle.std.specs.Prelude.{codes, ℕ, List, [], ◌∷◌, Bool, true, false}
use Rattle.a429_equipment.specs.declared.version.TableVersion.{TableVersion}
use Rattle.a429_equipment.specs.declared.version.TableVersion.TheVariants.{One, Two}
use Rattle.a429_table.specs.declared.fault.TablePlace.{TablePlace}
use Rattle.a429_table.specs.declared.fault.TablePlace.TheVariants.{Root, Receiver, Source, Group, Output}
use Rattle.a429_table.specs.declared.columns.Shape.{Shape}
use Rattle.a429_table.specs.declared.columns.Shape.TheVariants.{Integer, Text, Texts, Tables, IntegerOrText}
use Rattle.a429_table.specs.declared.columns.Column.{Column as CodeColumn}

-- a key, the shape of its value, and whether it is required
pub record Column : Type 0 where
  pub key : List ℕ
  pub shape : Shape
  pub required : Bool

abbrev pub must : List ℕ → Shape → Column
must key shape = record { key = key; shape = shape; required = true }

abbrev pub may : List ℕ → Shape → Column
may key shape = record { key = key; shape = shape; required = false }

-- a column, as the code holds it
abbrev pub column_view : CodeColumn → Column
column_view c = record { key = c.key.now; shape = c.shape; required = c.required }

-- In version 1 the root has the bit rate; in version 2 each group has its own, and outputs may have a hold (profile: equipment table, version 2).
unfoldable pub columns : TableVersion → TablePlace → List Column
columns One Root =
    must (codes "version") Integer ∷ must (codes "rate") Integer ∷ must (codes "receiver") Tables ∷ must (codes "source") Tables
    ∷ must (codes "group") Tables ∷ []
columns Two Root =
    must (codes "version") Integer ∷ must (codes "receiver") Tables ∷ must (codes "source") Tables ∷ must (codes "group") Tables ∷ []
columns version (Receiver i) = must (codes "name") Text ∷ may (codes "filters") Texts ∷ []
columns version (Source i) = must (codes "name") Text ∷ must (codes "receiver") Text ∷ must (codes "label") Text ∷ must (codes "sdi") IntegerOrText ∷ []
columns One (Group i) = must (codes "name") Text ∷ must (codes "output") Tables ∷ []
columns Two (Group i) = must (codes "name") Text ∷ must (codes "rate") Integer ∷ must (codes "output") Tables ∷ []
columns One (Output i j) = must (codes "source") Text ∷ must (codes "min_us") Integer ∷ must (codes "max_us") Integer ∷ []
columns Two (Output i j) =
    must (codes "source") Text ∷ must (codes "min_us") Integer ∷ must (codes "max_us") Integer ∷ may (codes "hold") Integer ∷ []
