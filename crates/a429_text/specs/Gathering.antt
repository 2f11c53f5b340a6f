-- Items of a list that is gathered (vocabulary of contracts).
use Rattle.std.specs.Prelude.{List, [], ◌∷◌, ◌++◌, Option, None, Some}
use Rattle.a429_text.specs.declared.lost.Lost.{Lost, Kept, Then'}

-- first to last
abbrev pub items_of : {T : Type 0} → Lost T → List T
items_of (Kept snapshot) = snapshot.value.items
items_of (Then' snapshot before last) = items_of before ++ last.value ∷ []

-- what was added: what is kept, or what was lost if an allocation failed
abbrev pub gathered : {T : Type 0} → Option (Lost T) → List T → List T
gathered None kept = kept
gathered (Some lost) kept = items_of lost
