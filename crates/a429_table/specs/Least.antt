-- The least fault, in the words of kinds and places (profile: docs/FORMATS.md, Kinds of a table).
use Rattle.std.specs.Prelude.{◌≡◌, List, ◌∷◌, ◌++◌, true, false}
use Rattle.std.specs.List.{AllByRecursion}
use Rattle.toml.specs.Data.{Data}
use Rattle.a429_table.specs.declared.fault.FaultKind.{FaultKind}
use Rattle.a429_table.specs.declared.fault.TablePlace.{TablePlace}
use Rattle.a429_table.specs.Walk.{Stop, walk}
use Rattle.a429_table.specs.Faults.{kinds, stands}

-- none of the stops has a fault of this kind
abbrev pub StandsAtNone : Data → List Stop → FaultKind → Type 0
StandsAtNone root stops kind = AllByRecursion (λ s. stands root kind s ≡ false) stops

-- The place has a fault of this kind. No earlier place has one of this kind. A fault of an earlier kind is at no place.
pub record IsLeast (root : Data) (kind : FaultKind) (place : TablePlace) : Type 0 where
  pub before : List FaultKind
  pub after : List FaultKind
  pub front : List Stop
  pub value : Data
  pub back : List Stop
  pub kinds_are : kinds ≡ before ++ kind ∷ after
  pub walk_is : walk root ≡ front ++ (place, value) ∷ back
  pub stands_there : stands root kind (place, value) ≡ true
  pub at_no_earlier_place : StandsAtNone root front kind
  pub no_earlier_kind : AllByRecursion (StandsAtNone root (walk root)) before
