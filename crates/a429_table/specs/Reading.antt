-- What the bytes of an equipment table state: a record, or the least fault (profile: equipment table).
use Rattle.std.specs.Prelude.{◌≡◌, ℕ, true, List, [], ◌∷◌, Option, Some, None, option_map, Result, Ok, Err, if◌then◌else◌}
use Rattle.std.specs.Str.{is_utf8}
use Rattle.toml.specs.Data.{Data, table}
use Rattle.toml.specs.Parse.{parse_document}
use Rattle.a429_table.specs.declared.fault.FaultKind.{FaultKind}
use Rattle.a429_table.specs.declared.fault.FaultKind.TheVariants.{NotToml}
use Rattle.a429_table.specs.declared.fault.TablePlace.{TablePlace}
use Rattle.a429_table.specs.declared.fault.TablePlace.TheVariants.{Root}
use Rattle.a429_table.specs.declared.fault.TableFault.{TableFault}
use Rattle.a429_table.specs.declared.fault.TableFault.TheVariants.{NoMemory, At}
use Rattle.a429_table.specs.Faults.{faults}
use Rattle.a429_equipment.specs.TableRecord.{TableRecord}
use Rattle.a429_table.specs.Stated.{stated}

-- the root table, if the bytes are UTF-8 and a TOML document (TOML)
unfoldable pub document : List ℕ → Option Data
document bytes = if is_utf8 bytes then option_map table (parse_document bytes) else None

-- the record if there is no fault; otherwise the least fault
abbrev pub judged : Data → List (FaultKind × TablePlace) → Result TableRecord (FaultKind × TablePlace)
judged root [] = Ok (stated root)
judged root (fault ∷ later) = Err fault

-- the root, or NotToml
abbrev pub root_of : Option Data → Result Data (FaultKind × TablePlace)
root_of None = Err (NotToml, Root)
root_of (Some root) = Ok root

abbrev pub read_root : Result Data (FaultKind × TablePlace) → Result TableRecord (FaultKind × TablePlace)
read_root (Err fault) = Err fault
read_root (Ok root) = judged root (faults root)

unfoldable pub reading : List ℕ → Result TableRecord (FaultKind × TablePlace)
reading bytes = read_root (root_of (document bytes))

-- a function gives what is stated by these bytes, unless memory runs out, which it does only for bytes that are UTF-8
abbrev pub GivesUnlessMemory : {X Y : Type 0} → (X → Y) → List ℕ → Result X TableFault → Result Y (FaultKind × TablePlace) → Type 0
GivesUnlessMemory view bytes (Ok x) stated = stated ≡ Ok (view x)
GivesUnlessMemory view bytes (Err NoMemory) stated = is_utf8 bytes ≡ true
GivesUnlessMemory view bytes (Err (At kind place)) stated = stated ≡ Err (kind, place)

-- a root table is judged so, unless memory runs out
abbrev pub IsJudged : Data → Result TableRecord TableFault → Type 0
IsJudged root (Ok stated) = judged root (faults root) ≡ Ok stated
IsJudged root (Err NoMemory) = Unit {0}
IsJudged root (Err (At kind place)) = judged root (faults root) ≡ Err (kind, place)
